-- The first fault of routes, from the first faults of their legs.
use Rattle.std.proofs.Common.{◌≡◌, ℕ, zero, suc, ◌+◌, ◌<◌, List, [], ◌∷◌, length, ⊎_elim, refl, subst, arith}
use Rattle.std.specs.Prelude.{slice_index_or}
use Rattle.std.proofs.Math.Nat.{eq-or-lt_of_le}
use Rattle.std.specs.declared.alloc.Global.{Global}
use Rattle.std.specs.declared.vec.Vec.{Vec}
use Rattle.fp_model.specs.declared.faults.PlanKind.{PlanKind}
use Rattle.fp_model.specs.declared.faults.PlanKind.TheVariants.{NotRoute}
use Rattle.fp_model.specs.declared.parts.Leg.{Leg}
use Rattle.fp_model.specs.declared.parts.Shipment.{Shipment}
use Rattle.fp_model.specs.Problem.{Problem}
use Rattle.fp_base_lists.specs.Vectors.{lists_of}
use Rattle.fp_model.specs.Numbered.{leg_at, route_at, shipment_at}
use Rattle.fp_model.specs.Faults.{HasLegFault, AreFaultless, HasFault, IsFirstFault, IsFirstLegFault}
use Rattle.fp_model.specs.Plans.{IsPlan}
use Rattle.fp_model.proofs.Faultless.{AreFaultlessBelow, goes_on, HasFault-leg, HasLegFault-fault, IsPlan-from_faultless, IsPlan-faultless}

-- the route with a number among lists of legs
pub route_at_lists_of : (routes : List (Vec Leg Global)) (k : ℕ) (d : Vec Leg Global) → k < length routes →
    route_at (lists_of routes) k ≡ (slice_index_or routes k d).items
route_at_lists_of [] k d lt = absurd (omega (arith, lt))
route_at_lists_of (r ∷ routes) zero d lt = refl
route_at_lists_of (r ∷ routes) (suc k) d lt = route_at_lists_of routes k d (omega (arith, lt))

-- the arcs of legs without a fault exist
pub exist_below : (p : Problem) (s : Shipment) (legs : List Leg) (n : ℕ) → n < length legs → AreFaultlessBelow p s legs n →
    (i : ℕ) → i < n → (leg_at legs i).arc < length p.arcs
exist_below p s legs n lt none i below = (goes_on p s legs i (omega (arith, lt, below)) (none NotRoute i below)).0

-- the shipments below a number have no fault
abbrev pub AreShipmentsFaultless : Problem → List (List Leg) → ℕ → Type 0
AreShipmentsFaultless p routes n = (kind : PlanKind) (k i : ℕ) → k < n → HasFault p routes kind k i → ⊥

-- one more shipment without a fault
pub faultless_more : (p : Problem) (routes : List (List Leg)) (n : ℕ) → length routes ≡ length p.shipments → AreShipmentsFaultless p routes n →
    AreFaultless p (shipment_at p n) (route_at routes n) → AreShipmentsFaultless p routes (n + 1)
faultless_more p routes n long none more kind k i lt fault =
    ⊎_elim
    (λ (here : k ≡ n).
    more kind i (subst (λ (m : ℕ). HasLegFault p (shipment_at p m) (route_at routes m) kind i) here (HasLegFault-fault p routes kind k i long fault).1))
    (λ (before : k < n). none kind k i before fault)
    (eq-or-lt_of_le (omega (arith, lt)))

-- the first fault of a shipment, where those before it have none, is the first of all
pub first_of_all : (p : Problem) (routes : List (List Leg)) (kind : PlanKind) (k i : ℕ) → k < length p.shipments → length routes ≡ length p.shipments →
    AreShipmentsFaultless p routes k → IsFirstLegFault p (shipment_at p k) (route_at routes k) kind i → IsFirstFault p routes kind k i
first_of_all p routes kind k i lt long none at = record {
  there = HasFault-leg p routes kind k i lt (omega (arith, lt, long)) at.there;
  first = λ other l j before fault.
      let here : l ≡ k → HasLegFault p (shipment_at p k) (route_at routes k) other j =
      λ same. subst (λ (m : ℕ). HasLegFault p (shipment_at p m) (route_at routes m) other j) same (HasLegFault-fault p routes other l j long fault).1 in
      ⊎_elim
      (λ earlier. none other l j earlier fault)
      (λ same.
      ⊎_elim
      (λ (less : j < i). at.earlier other j less (here same.0))
      (λ lesser. at.lesser other lesser.1 (subst (λ (m : ℕ). HasLegFault p (shipment_at p k) (route_at routes k) other m) lesser.0 (here same.0)))
      same.1)
      before;
}

-- where all shipments have no fault the routes are a plan
pub plan_after_all : (p : Problem) (routes : List (List Leg)) (n : ℕ) → length routes ≡ length p.shipments → n ≡ length p.shipments → AreShipmentsFaultless p routes n →
    IsPlan p 1 routes
plan_after_all p routes n long all none =
    IsPlan-from_faultless p routes (λ kind k i fault. none kind k i (omega (arith, all, (HasLegFault-fault p routes kind k i long fault).0)) fault)

-- where there is a first fault the routes are no plan
pub no_plan_at_fault : (p : Problem) (routes : List (List Leg)) (kind : PlanKind) (k i : ℕ) → IsFirstFault p routes kind k i → IsPlan p 1 routes → ⊥
no_plan_at_fault p routes kind k i fault plan = IsPlan-faultless p routes plan kind k i fault.there
