-- What the rules on routes and times say, leg by leg.
use Rattle.std.proofs.Common.{◌≡◌, ◌≢◌, ℕ, zero, suc, ◌+◌, ◌*◌, ◌<◌, ◌≤◌, List, [], ◌∷◌, length, refl, sym, subst, arith}
use Rattle.std.specs.List.{AllByRecursion}
use Rattle.fp_base_lists.proofs.Distinct.{AreDistinct-cons, AreDistinct-head, AreDistinct-nil, AreDistinct-tail}
use Rattle.fp_model.specs.declared.parts.Leg.{Leg}
use Rattle.fp_model.specs.Problem.{Problem, arc_at}
use Rattle.fp_model.specs.Routes.{Leads, LeavesReady, arcs_of, ends_of, step}
use Rattle.fp_base_lists.specs.Distinct.{AreDistinct}
use Rattle.fp_model.specs.Numbered.{leg_at}
use Rattle.fp_model.specs.Faults.{place_before}

-- the place after the first leg, seen from there
place-next : (p : Problem) (origin : ℕ) (l : Leg) (legs : List Leg) (i : ℕ) →
    place_before p origin (l ∷ legs) (suc i) ≡ place_before p (arc_at p l.arc).to legs i
place-next p origin l legs zero = refl
place-next p origin l legs (suc i) = refl

-- a leg goes by an arc that leaves where its shipment is
abbrev pub GoesOn : Problem → ℕ → List Leg → ℕ → Type 0
GoesOn p origin legs i =
    ((leg_at legs i).arc < length p.arcs) × ((arc_at p (leg_at legs i).arc).from ≡ place_before p origin legs i)

pub Leads-from_legs : (p : Problem) (here there : ℕ) (legs : List Leg) → ((i : ℕ) → i < length legs → GoesOn p here legs i) →
    place_before p here legs (length legs) ≡ there → Leads p here (arcs_of legs) there
Leads-from_legs p here there [] each last = last
Leads-from_legs p here there (l ∷ legs) each last =
    let first : GoesOn p here (l ∷ legs) 0 = each 0 (omega arith) in
    let later : (i : ℕ) → i < length legs → GoesOn p (arc_at p l.arc).to legs i =
    λ i lt.
    let next : GoesOn p here (l ∷ legs) (suc i) = each (suc i) (omega (arith, lt)) in
    subst (λ (n : ℕ). ((leg_at legs i).arc < length p.arcs) × ((arc_at p (leg_at legs i).arc).from ≡ n)) (place-next p here l legs i) next in
    let end : place_before p (arc_at p l.arc).to legs (length legs) ≡ there =
    subst (λ (n : ℕ). n ≡ there) (place-next p here l legs (length legs)) last in
    (first.0, first.1, Leads-from_legs p (arc_at p l.arc).to there legs later end)

pub Leads-legs : (p : Problem) (here there : ℕ) (legs : List Leg) → Leads p here (arcs_of legs) there → (i : ℕ) → i < length legs → GoesOn p here legs i
Leads-legs p here there [] leads i lt = absurd (omega (arith, lt))
Leads-legs p here there (l ∷ legs) leads zero lt = (leads.0, leads.1)
Leads-legs p here there (l ∷ legs) leads (suc i) lt =
    let next : GoesOn p (arc_at p l.arc).to legs i = Leads-legs p (arc_at p l.arc).to there legs leads.2 i (omega (arith, lt)) in
    subst (λ (n : ℕ). ((leg_at legs i).arc < length p.arcs) × ((arc_at p (leg_at legs i).arc).from ≡ n)) (sym (place-next p here l legs i)) next

pub Leads-last : (p : Problem) (here there : ℕ) (legs : List Leg) → Leads p here (arcs_of legs) there → place_before p here legs (length legs) ≡ there
Leads-last p here there [] leads = leads
Leads-last p here there (l ∷ legs) leads =
    subst (λ (n : ℕ). n ≡ there) (sym (place-next p here l legs (length legs))) (Leads-last p (arc_at p l.arc).to there legs leads.2)

-- no leg enters a terminal
abbrev pub NeverEnters : Problem → ℕ → List Leg → Type 0
NeverEnters p terminal legs = (i : ℕ) → i < length legs → terminal ≢ (arc_at p (leg_at legs i).arc).to

ends-differ : (p : Problem) (terminal : ℕ) (legs : List Leg) → NeverEnters p terminal legs → AllByRecursion (λ y. y ≢ terminal) (ends_of p (arcs_of legs))
ends-differ p terminal [] never = tt
ends-differ p terminal (l ∷ legs) never = (
  (λ e. never 0 (omega arith) (sym e)),
  ends-differ p terminal legs (λ i lt. never (suc i) (omega (arith, lt))),
)

never-enters : (p : Problem) (terminal : ℕ) (legs : List Leg) → AllByRecursion (λ y. y ≢ terminal) (ends_of p (arcs_of legs)) → NeverEnters p terminal legs
never-enters p terminal [] all i lt = absurd (omega (arith, lt))
never-enters p terminal (l ∷ legs) all zero lt = λ e. all.0 (sym e)
never-enters p terminal (l ∷ legs) all (suc i) lt = never-enters p terminal legs all.1 i (omega (arith, lt))

-- no leg enters a terminal where its shipment has been
abbrev pub NeverReturns : Problem → ℕ → List Leg → Type 0
NeverReturns p origin legs = (i j : ℕ) → j ≤ i → i < length legs → place_before p origin legs j ≢ (arc_at p (leg_at legs i).arc).to

pub AreDistinct-from_legs : (p : Problem) (origin : ℕ) (legs : List Leg) → NeverReturns p origin legs → AreDistinct (origin ∷ ends_of p (arcs_of legs))
AreDistinct-from_legs p origin [] never = AreDistinct-cons origin [] tt AreDistinct-nil
AreDistinct-from_legs p origin (l ∷ legs) never =
    AreDistinct-cons origin (ends_of p (arcs_of (l ∷ legs))) (ends-differ p origin (l ∷ legs) (λ i lt. never i 0 (omega arith) lt))
    (AreDistinct-from_legs p (arc_at p l.arc).to legs (λ i j le lt.
    subst (λ (n : ℕ). n ≢ (arc_at p (leg_at legs i).arc).to) (place-next p origin l legs j) (never (suc i) (suc j) (omega (arith, le)) (omega (arith, lt)))))

pub AreDistinct-legs : (p : Problem) (origin : ℕ) (legs : List Leg) → AreDistinct (origin ∷ ends_of p (arcs_of legs)) → NeverReturns p origin legs
AreDistinct-legs p origin legs apart i zero le lt = never-enters p origin legs (AreDistinct-head origin (ends_of p (arcs_of legs)) apart) i lt
AreDistinct-legs p origin [] apart i (suc j) le lt = absurd (omega (arith, lt))
AreDistinct-legs p origin (l ∷ legs) apart zero (suc j) le lt = absurd (omega (arith, le))
AreDistinct-legs p origin (l ∷ legs) apart (suc i) (suc j) le lt =
    subst (λ (n : ℕ). n ≢ (arc_at p (leg_at legs i).arc).to) (sym (place-next p origin l legs j))
    (AreDistinct-legs p (arc_at p l.arc).to legs (AreDistinct-tail origin (ends_of p (arcs_of (l ∷ legs))) apart) i j (omega (arith, le)) (omega (arith, lt)))

-- the first leg leaves at a moment or later
abbrev pub StartsFrom : ℕ → List Leg → Type 0
StartsFrom ready legs = 0 < length legs → ready ≤ (leg_at legs 0).depart

-- each next leg leaves a step after the one before, or later
abbrev pub KeepsSteps : Problem → List Leg → Type 0
KeepsSteps p legs = (i : ℕ) → suc i < length legs → (leg_at legs i).depart + step p (leg_at legs i).arc ≤ (leg_at legs (suc i)).depart

pub LeavesReady-from_legs : (p : Problem) (ready : ℕ) (legs : List Leg) → StartsFrom ready legs → KeepsSteps p legs → LeavesReady p 1 ready legs
LeavesReady-from_legs p ready [] starts keeps = tt
LeavesReady-from_legs p ready (l ∷ legs) starts keeps = (
  starts (omega arith),
  LeavesReady-from_legs p (l.depart + 1 * step p l.arc) legs (λ some. omega (arith, keeps 0 (omega (arith, some)))) (λ i lt. keeps (suc i) (omega (arith, lt))),
)

pub LeavesReady-first : (p : Problem) (ready : ℕ) (legs : List Leg) → LeavesReady p 1 ready legs → StartsFrom ready legs
LeavesReady-first p ready [] leaves some = absurd (omega (arith, some))
LeavesReady-first p ready (l ∷ legs) leaves some = leaves.0

pub LeavesReady-legs : (p : Problem) (ready : ℕ) (legs : List Leg) → LeavesReady p 1 ready legs → KeepsSteps p legs
LeavesReady-legs p ready [] leaves i lt = absurd (omega (arith, lt))
LeavesReady-legs p ready (l ∷ legs) leaves zero lt =
    let next : l.depart + 1 * step p l.arc ≤ (leg_at legs 0).depart = LeavesReady-first p (l.depart + 1 * step p l.arc) legs leaves.1 (omega (arith, lt)) in
    omega (arith, next)
LeavesReady-legs p ready (l ∷ legs) leaves (suc i) lt = LeavesReady-legs p (l.depart + 1 * step p l.arc) legs leaves.1 i (omega (arith, lt))
