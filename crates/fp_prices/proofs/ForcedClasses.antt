-- A forced chain is the beginning of every allowed walk, so what its trucks cost is at most what those of the walks cost.
use Rattle.std.proofs.Common.{◌≡◌, ℕ, ◌≤◌, Bool, true, false, List, [], ◌∷◌, ⊎_elim, sym, subst, arith}
use Rattle.std.specs.List.{AllByRecursion, AllZip}
use Rattle.std.proofs.Math.Nat.{mul-le-mul_left}
use Rattle.std.proofs.lemmas.Bool.{cases_Bool, cond-true, cond-false, or_cases, or_left, or_right, false≢true}
use Rattle.fp_model.specs.declared.parts.Arc.{Arc}
use Rattle.fp_model.specs.declared.parts.Leg.{Leg}
use Rattle.fp_model.specs.declared.parts.Shipment.{Shipment}
use Rattle.fp_model.specs.Problem.{Problem, arc_at}
use Rattle.fp_model.specs.Routes.{Leads, arcs_of}
use Rattle.fp_model.specs.Costs.{same_leg, has_leg, load}
use Rattle.fp_model.proofs.Bounds.{departure_of}
use Rattle.fp_base_lists.proofs.Ceilings.{div_ceil_mono}
use Rattle.fp_allowed.specs.Allowed.{AreForced}
use Rattle.fp_prices.specs.Leaves.{IsChain}

-- each class of a chain is one of a walk
abbrev pub AreAmong : List Leg → List Leg → Type 0
AreAmong chain walk = (c : Leg) → has_leg c chain ≡ true → has_leg c walk ≡ true

-- each walk that leads on by allowed classes has the forced ones
forced-among : (p : Problem) (allowed : Leg → Bool) (there : ℕ) (met : List ℕ) (here : ℕ) (chain walk : List Leg) → AreForced p allowed there met here chain →
    Leads p here (arcs_of walk) there → AllByRecursion (λ c. allowed c ≡ true) walk → AreAmong chain walk
forced-among p allowed there met here [] walk forced leads all c h = absurd (false≢true h)
forced-among p allowed there met here (f ∷ chain) [] forced leads all c h = absurd (forced.0 leads)
forced-among p allowed there met here (f ∷ chain) (w ∷ walk) forced leads all c h =
    let same : w ≡ f = forced.2.alone w all.0 leads.1 in
    let later : Leads p (arc_at p f.arc).to (arcs_of walk) there = subst (λ (l : Leg). Leads p (arc_at p l.arc).to (arcs_of walk) there) same leads.2 in
    ⊎_elim
    (λ (first : same_leg c f ≡ true). or_left (same_leg c w) (has_leg c walk) (subst (λ (l : Leg). same_leg c l ≡ true) (sym same) first))
    (λ (rest : has_leg c chain ≡ true).
    or_right (same_leg c w) (has_leg c walk) (forced-among p allowed there (here ∷ met) (arc_at p f.arc).to chain walk forced.3 later all.1 c rest))
    (or_cases (same_leg c f) (has_leg c chain) h)

-- so do the classes that a leaf counts as forced
pub chain-among : (p : Problem) (allowed : Leg → Bool) (forced : Bool) (s : Shipment) (chain walk : List Leg) → IsChain p allowed forced s chain →
    Leads p s.from (arcs_of walk) s.to → AllByRecursion (λ c. allowed c ≡ true) walk → AreAmong chain walk
chain-among p allowed true s chain walk is leads all = forced-among p allowed s.to [] s.from chain walk is.forced leads all
chain-among p allowed false s chain walk is leads all = λ c h. absurd (false≢true (subst (λ (legs : List Leg). has_leg c legs ≡ true) is h))

-- chains load a class no more than the walks that have them
load-among : (shipments : List Shipment) (chains walks : List (List Leg)) (c : Leg) → AllZip AreAmong chains walks → load shipments chains c ≤ load shipments walks c
load-among [] chains walks c among = omega arith
load-among (s ∷ shipments) [] walks c among = omega arith
load-among (s ∷ shipments) (chain ∷ chains) [] c among = absurd among
load-among (s ∷ shipments) (chain ∷ chains) (walk ∷ walks) c among =
    let rest : load shipments chains c ≤ load shipments walks c = load-among shipments chains walks c among.1 in
    ⊎_elim
    (λ (h : has_leg c chain ≡ true). omega (arith, cond-true (has_leg c chain) s.size 0 h, cond-true (has_leg c walk) s.size 0 (among.0 c h), rest))
    (λ (h : has_leg c chain ≡ false). omega (arith, cond-false (has_leg c chain) s.size 0 h, rest))
    (cases_Bool (has_leg c chain))

-- the base of a class is at most what its trucks cost
pub base-le : (p : Problem) (shipments : List Shipment) (chains walks : List (List Leg)) (c : Leg) → AllZip AreAmong chains walks →
    departure_of p shipments chains c ≤ departure_of p shipments walks c
base-le p shipments chains walks c among =
    let arc : Arc = arc_at p c.arc in
    mul-le-mul_left arc.truck (div_ceil_mono (load shipments chains c) (load shipments walks c) arc.capacity (load-among shipments chains walks c among))
