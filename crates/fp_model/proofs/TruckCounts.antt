-- Each departure has a truck, so where no truck leaves by an arc in a run of times, no leg does.
use Rattle.std.proofs.Common.{◌≡◌, ℕ, ◌≤◌, ◌<◌, true, false, cond, List, [], ◌∷◌, length, ⊎_elim, sym, ◌∙◌, arith}
use Rattle.std.specs.Prelude.{All}
use Rattle.std.specs.List.{AllByRecursion}
use Rattle.std.proofs.lemmas.Bool.{cases_Bool, cond-true, false≢true, or_cases}
use Rattle.std.proofs.lemmas.List.Elements.{All-head, All-tail}
use Rattle.std.proofs.lemmas.List.Folds.{list_any-append}
use Rattle.std.proofs.lemmas.Slice.Zip.{AllZip-long}
use Rattle.fp_base_lists.proofs.Ceilings.{div_ceil-some}
use Rattle.fp_model.specs.declared.parts.Leg.{Leg}
use Rattle.fp_model.specs.declared.parts.Shipment.{Shipment}
use Rattle.fp_model.specs.Problem.{IsShipment, IsValid, Problem, arc_at}
use Rattle.fp_model.specs.Costs.{all_legs, has_leg, load, same_leg, trucks}
use Rattle.fp_model.specs.Plans.{IsPlan}
use Rattle.fp_model.specs.Routes.{Carries}
use Rattle.fp_model.specs.TruckCounts.{leaves_between, trucks_between}
use Rattle.fp_model.proofs.Distinct.{term-le}
use Rattle.fp_model.proofs.Validity.{IsArc-valid}

-- the size of each shipment is at least 1
pub sizes-some : (n : ℕ) (shipments : List Shipment) → All (IsShipment n) shipments → AllByRecursion (λ (s : Shipment). 1 ≤ s.size) shipments
sizes-some n [] all = tt
sizes-some n (s ∷ shipments) all = ((All-head (IsShipment n) s shipments all).within.size.0, sizes-some n shipments (All-tail (IsShipment n) s shipments all))

-- so what a route has as a leg is loaded
pub load-some : (shipments : List Shipment) (routes : List (List Leg)) (k : Leg) → length routes ≡ length shipments → AllByRecursion (λ (s : Shipment). 1 ≤ s.size) shipments →
    has_leg k (all_legs routes) ≡ true → 1 ≤ load shipments routes k
load-some [] [] k long sized h = absurd (false≢true h)
load-some [] (legs ∷ routes) k long sized h = omega arith
load-some (s ∷ shipments) [] k long sized h = omega arith
load-some (s ∷ shipments) (legs ∷ routes) k long sized h =
    ⊎_elim
    (λ (here : has_leg k legs ≡ true). omega (arith, sized.0, cond-true (has_leg k legs) s.size 0 here))
    (λ (later : has_leg k (all_legs routes) ≡ true).
    let short : length routes ≡ length shipments = omega arith in
    omega (arith, load-some shipments routes k short sized.1 later))
    (or_cases (has_leg k legs) (has_leg k (all_legs routes)) (sym (list_any-append (same_leg k) legs (all_legs routes)) ∙ h))

-- and has a truck
pub trucks-some : (p : Problem) (d : ℕ) (routes : List (List Leg)) (k : Leg) → IsValid p → IsPlan p d routes → k.arc < length p.arcs → has_leg k (all_legs routes) ≡ true → 1 ≤ trucks p routes k
trucks-some p d routes k valid plan exists h =
    div_ceil-some (load p.shipments routes k) (arc_at p k.arc).capacity (IsArc-valid p k.arc valid exists).within.capacity.0
    (load-some p.shipments routes k (AllZip-long (Carries p d) p.shipments routes plan) (sizes-some (length p.terminals) p.shipments valid.parts.shipments) h)

-- where no truck leaves by an arc in a run of times, none of the legs does
pub trucks_between-none : (p : Problem) (d : ℕ) (routes : List (List Leg)) (arc point until : ℕ) (k : Leg) → IsValid p → IsPlan p d routes → trucks_between p d routes arc point until ≡ 0 →
    k.arc < length p.arcs → has_leg k (all_legs routes) ≡ true → leaves_between d arc point until k ≡ false
trucks_between-none p d routes arc point until k valid plan none exists h =
    ⊎_elim
    (λ (inside : leaves_between d arc point until k ≡ true).
    let counted : Leg → ℕ = λ (l : Leg). cond (leaves_between d arc point until l) (trucks p routes l) 0 in
    absurd (omega (arith, term-le counted k (all_legs routes) h, none, cond-true (leaves_between d arc point until k) (trucks p routes k) 0 inside, trucks-some p d routes k valid plan exists h)))
    (λ (outside : leaves_between d arc point until k ≡ false). outside)
    (cases_Bool (leaves_between d arc point until k))
