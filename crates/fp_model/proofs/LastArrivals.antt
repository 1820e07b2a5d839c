-- When the last leg of a route arrives, and that no leg departs later than that.
use Rattle.std.proofs.Common.{◌≡◌, ℕ, ◌+◌, ◌-◌, ◌*◌, ◌<◌, ◌≤◌, List, [], ◌∷◌, length, get_or, sym, subst, arith}
use Rattle.std.specs.Prelude.{◌↔◌}
use Rattle.fp_model.specs.declared.parts.Leg.{Leg}
use Rattle.fp_model.specs.Problem.{Problem, arc_at}
use Rattle.fp_model.specs.Routes.{ArrivesBy, LeavesReady, step}
use Rattle.std.specs.List.{AllByRecursion}

-- the arrival of the last leg decides
arrives_last : (p : Problem) (d due : ℕ) (l : Leg) (legs : List Leg) (x : Leg) →
    (ArrivesBy p d due (l ∷ legs)
    ↔ ((get_or (l ∷ legs) (length legs) x).depart + d * (arc_at p (get_or (l ∷ legs) (length legs) x).arc).time ≤ d * due))
arrives_last p d due l [] x = ((λ h. h), (λ h. h))
arrives_last p d due l (m ∷ legs) x = arrives_last p d due m legs x

-- a shipment arrives in time exactly where its last leg does
pub arrives_at_last : (p : Problem) (d due : ℕ) (legs : List Leg) (x : Leg) → 0 < length legs →
    (ArrivesBy p d due legs ↔ ((get_or legs (length legs - 1) x).depart + d * (arc_at p (get_or legs (length legs - 1) x).arc).time ≤ d * due))
arrives_at_last p d due [] x h = absurd (omega (arith, h))
arrives_at_last p d due (l ∷ legs) x h =
    let at : length (l ∷ legs) - 1 ≡ length legs = omega arith in
    let P : ℕ → Type 0 = λ n.
    ArrivesBy p d due (l ∷ legs) ↔ ((get_or (l ∷ legs) n x).depart + d * (arc_at p (get_or (l ∷ legs) n x).arc).time ≤ d * due) in
    subst P (sym at) (arrives_last p d due l legs x)

-- legs that arrive by a due time depart by it
pub legs-depart_by : (p : Problem) (ready due : ℕ) (legs : List Leg) → LeavesReady p 1 ready legs → ArrivesBy p 1 due legs → AllByRecursion (λ (l : Leg). l.depart ≤ due) legs
legs-depart_by p ready due [] leaves arrives = tt
legs-depart_by p ready due (l ∷ []) leaves arrives = (omega (arith, arrives), tt)
legs-depart_by p ready due (l ∷ m ∷ legs) leaves arrives =
    let rest : AllByRecursion (λ (k : Leg). k.depart ≤ due) (m ∷ legs) = legs-depart_by p (l.depart + 1 * step p l.arc) due (m ∷ legs) leaves.1 arrives in
    (omega (arith, rest.0, leaves.1.0), rest)
