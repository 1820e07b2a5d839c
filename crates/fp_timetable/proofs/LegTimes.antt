-- What the legs of a plan are to its lines: they rise, and they arrive within 32 bits.
use Rattle.std.proofs.Common.{ℕ, ◌+◌, ◌*◌, ◌^◌, ◌<◌, ◌≤◌, List, [], ◌∷◌, length, arith}
use Rattle.std.specs.List.{AllByRecursion}
use Rattle.std.proofs.lemmas.List.Elements.{All-cons, All-nil, All-get_or}
use Rattle.fp_model.specs.declared.parts.Leg.{Leg}
use Rattle.fp_model.specs.Problem.{Problem, IsArc, IsValid, arc_at, no_arc}
use Rattle.fp_model.specs.Routes.{Leads, LeavesReady, ArrivesBy, arcs_of, step}
use Rattle.fp_base_lists.proofs.Elements.{AllByRecursion-weaker}
use Rattle.fp_timetable.specs.Order.{ArriveWithin, IsWithin}

-- an arc takes at least one unit of time
step-positive : (p : Problem) (a : ℕ) → IsValid p → a < length p.arcs → 1 ≤ step p a
step-positive p a valid lt =
    let arc : IsArc (length p.terminals) (arc_at p a) = All-get_or (IsArc (length p.terminals)) p.arcs a no_arc lt valid.parts.arcs in
    omega (arith, arc.within.time.0)

-- legs depart one after the other
abbrev pub Rise : List Leg → Type 0
Rise [] = Unit {0}
Rise (l ∷ legs) = AllByRecursion (λ (m : Leg). l.depart < m.depart) legs × Rise legs

ready-le : (p : Problem) (here there ready : ℕ) (legs : List Leg) → IsValid p → Leads p here (arcs_of legs) there → LeavesReady p 1 ready legs →
    AllByRecursion (λ (m : Leg). ready ≤ m.depart) legs
ready-le p here there ready [] valid leads leaves = tt
ready-le p here there ready (l ∷ legs) valid leads leaves = (
  leaves.0,
  AllByRecursion-weaker (λ (m : Leg). l.depart + 1 * step p l.arc ≤ m.depart) (λ (m : Leg). ready ≤ m.depart) (λ m h. omega (arith, h, leaves.0)) legs
      (ready-le p (arc_at p l.arc).to there (l.depart + 1 * step p l.arc) legs valid leads.2 leaves.1),
)

pub Rise-ready : (p : Problem) (here there ready : ℕ) (legs : List Leg) → IsValid p → Leads p here (arcs_of legs) there → LeavesReady p 1 ready legs → Rise legs
Rise-ready p here there ready [] valid leads leaves = tt
Rise-ready p here there ready (l ∷ legs) valid leads leaves = (
  AllByRecursion-weaker (λ (m : Leg). l.depart + 1 * step p l.arc ≤ m.depart) (λ (m : Leg). l.depart < m.depart) (λ m h. omega (arith, h, step-positive p l.arc valid leads.0)) legs
      (ready-le p (arc_at p l.arc).to there (l.depart + 1 * step p l.arc) legs valid leads.2 leaves.1),
  Rise-ready p (arc_at p l.arc).to there (l.depart + 1 * step p l.arc) legs valid leads.2 leaves.1,
)

pub ArriveWithin-ready : (p : Problem) (here there ready due : ℕ) (legs : List Leg) → due < 2 ^ 32 → Leads p here (arcs_of legs) there → LeavesReady p 1 ready legs →
    ArrivesBy p 1 due legs → ArriveWithin p legs
ArriveWithin-ready p here there ready due [] small leads leaves arrives = All-nil (IsWithin p)
ArriveWithin-ready p here there ready due (l ∷ []) small leads leaves arrives = All-cons (IsWithin p) l [] (leads.0, omega (arith, arrives, small)) (All-nil (IsWithin p))
ArriveWithin-ready p here there ready due (l ∷ m ∷ legs) small leads leaves arrives =
    let rest : ArriveWithin p (m ∷ legs) =
    ArriveWithin-ready p (arc_at p l.arc).to there (l.depart + 1 * step p l.arc) due (m ∷ legs) small leads.2 leaves.1 arrives in
    let next = All-get_or (IsWithin p) (m ∷ legs) 0 m (omega arith) rest in
    All-cons (IsWithin p) l (m ∷ legs) (leads.0, omega (arith, next.1, leaves.1.0)) rest
