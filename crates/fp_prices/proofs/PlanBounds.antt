-- No plan of a leaf costs less than the leaf is worth, and an empty leaf has no plan.
use Rattle.std.proofs.Common.{◌≡◌, ℕ, suc, ◌+◌, ◌*◌, ◌≤◌, Bool, List, [], ◌∷◌, length, map, refl, ap, ◌∙◌, subst, arith}
use Rattle.std.specs.Prelude.{sum_by, slice_index_or, Option}
use Rattle.std.proofs.Math.Nat.{mul-le-mul_left}
use Rattle.std.proofs.lemmas.List.Elements.{All-get_or}
use Rattle.std.proofs.lemmas.Slice.Zip.{AllZip-long}
use Rattle.fp_model.specs.declared.parts.Leg.{Leg}
use Rattle.fp_model.specs.declared.parts.Shipment.{Shipment}
use Rattle.fp_model.specs.Numbered.{no_shipment, route_at, shipment_at}
use Rattle.fp_model.specs.Problem.{Problem, IsValid, IsArc, no_arc}
use Rattle.fp_model.specs.Routes.{Carries}
use Rattle.fp_model.specs.Costs.{all_legs, departures_cost, flow_total, cost}
use Rattle.fp_model.proofs.TruckCounts.{sizes-some}
use Rattle.fp_flatnet.specs.declared.window_tables.Window.{Window}
use Rattle.fp_longestarcs.specs.Classes.{class_of}
use Rattle.fp_longestarcs.proofs.ClassCosts.{cost-classes}
use Rattle.fp_tree.specs.declared.sides.Side.{Side}
use Rattle.fp_allowed.specs.Allowed.{is_allowed}
use Rattle.fp_allowed.proofs.PlanClasses.{plan_timed, route_timed}
use Rattle.fp_prices.specs.declared.leaf_prices.Kind.{Kind}
use Rattle.fp_prices.specs.declared.values.bounds.LeafBound.{LeafBound}
use Rattle.fp_prices.specs.declared.values.bounds.LeafBound.TheVariants.{Empty, Value}
use Rattle.fp_prices.specs.Shares.{ClassShare}
use Rattle.fp_prices.specs.Prices.{AllKeepRule}
use Rattle.fp_prices.specs.Leaves.{BoundsPlans, IsBoundOf, IsLeafEmpty, IsLeafValue, IsPlanOfLeaf, LeavesBoundPlans, leaf_price}
use Rattle.fp_prices.proofs.TakenByClasses.{paid}
use Rattle.fp_prices.proofs.Users.{AgreesFrom, users-few}
use Rattle.fp_prices.proofs.ClassPrices.{AreWalks}
use Rattle.fp_prices.proofs.LeafSums.{bases-and-paid, costs-le}
use Rattle.fp_prices.proofs.WalkClasses.{AreTimedWalks, classes-once, used-allowed, used-exist, chains-among}

-- the size of the shipment with a number
abbrev pub size_at : Problem → ℕ → ℕ
size_at p k = (shipment_at p k).size

agrees-on : (size : ℕ → ℕ) (i : ℕ) (shipments : List Shipment) → ((k : ℕ) → size (i + k) ≡ (slice_index_or shipments k no_shipment).size) → AgreesFrom size i shipments
agrees-on size i [] h = tt
agrees-on size i (s ∷ shipments) h =
    let same : i + 0 ≡ i = omega arith in (
      subst (λ (n : ℕ). size n ≡ s.size) same (h 0),
      agrees-on size (i + 1) shipments (λ k.
          let on : i + suc k ≡ i + 1 + k = omega arith in
          subst (λ (n : ℕ). size n ≡ (slice_index_or shipments k no_shipment).size) on (h (suc k))),
    )

-- the sizes of the shipments are those at their numbers
pub sizes-agree : (p : Problem) → AgreesFrom (size_at p) 0 p.shipments
sizes-agree p = agrees-on (size_at p) 0 p.shipments (λ k. ap (size_at p) (let e : 0 + k ≡ k = omega arith in e))

same-length : {X : Type 0} (f : X → X) (xs : List (List X)) → length (map (map f) xs) ≡ length xs
same-length f [] = refl
same-length f (x ∷ xs) = omega (arith, same-length f xs)

-- walks by allowed classes, one for each shipment, have the forced chains of a leaf
leaf-walks : (p : Problem) (windows : ℕ → ℕ → Option Window) (points : ℕ → List ℕ) (sides : List Side) (tables : List (List ClassShare)) (kind : Kind) (forced : Bool) (value : ℕ) (walks : List (List Leg)) →
    IsValid p → (leaf : IsLeafValue p windows points sides tables kind forced value) → length walks ≡ length p.shipments →
    AreTimedWalks p points (is_allowed p windows points sides) 0 p.shipments walks → AreWalks p (is_allowed p windows points sides) (size_at p) leaf.chains walks
leaf-walks p windows points sides tables kind forced value walks valid leaf long timed =
    let allowed : ℕ → Leg → Bool = is_allowed p windows points sides in
    record {
      long = long;
      sizes = sizes-agree p;
      sized = sizes-some (length p.terminals) p.shipments valid.parts.shipments;
      capacity = λ c h. (All-get_or (IsArc (length p.terminals)) p.arcs c.arc no_arc (used-exist p points allowed 0 p.shipments walks c timed h) valid.parts.arcs).within.capacity.0;
      few = λ c. users-few (λ j. allowed j c) 0 p.shipments walks c long (used-allowed p points allowed 0 p.shipments walks c timed);
      among = chains-among p points allowed forced 0 p.shipments leaf.chains walks leaf.are_chains timed;
    }

-- the value of a leaf is at most the scaled cost of each of its plans
pub leaf-bounds : (p : Problem) (windows : ℕ → ℕ → Option Window) (points : ℕ → List ℕ) (sides : List Side) (tables : List (List ClassShare)) (kind : Kind) (forced : Bool) (value : ℕ) → IsValid p →
    AllKeepRule p tables → IsLeafValue p windows points sides tables kind forced value → (d : ℕ) (plan : List (List Leg)) → IsPlanOfLeaf p windows sides d plan → value ≤ p.scale * cost p plan
leaf-bounds p windows points sides tables kind forced value valid keep leaf d plan of_leaf =
    let walks : List (List Leg) = map (map (class_of p points d)) plan in
    let allowed : ℕ → Leg → Bool = is_allowed p windows points sides in
    let price : ℕ → ℕ → Leg → ℕ = λ k size. leaf_price p tables allowed kind leaf.chains k size in
    let timed : AreTimedWalks p points allowed 0 p.shipments walks = plan_timed p windows points sides d plan of_leaf.denominator of_leaf.plan of_leaf.within of_leaf.obeys in
    let long : length walks ≡ length p.shipments = same-length (class_of p points d) plan ∙ AllZip-long (Carries p d) p.shipments plan of_leaf.plan in
    let are : AreWalks p allowed (size_at p) leaf.chains walks = leaf-walks p windows points sides tables kind forced value walks valid leaf long timed in
    let bases : p.scale * departures_cost p leaf.chains (all_legs leaf.chains) + paid (λ c k. price k (size_at p k) c) 0 walks ≤ p.scale * departures_cost p walks (all_legs walks) =
    bases-and-paid p tables allowed kind (size_at p) leaf.chains walks keep are (classes-once p points d p.shipments plan of_leaf.plan) in
    let least : sum_by (λ (n : ℕ). n) leaf.costs ≤ paid (λ c k. price k (size_at p k) c) 0 walks + p.scale * flow_total p p.shipments walks =
    costs-le p points allowed price (size_at p) 0 p.shipments leaf.costs walks (sizes-agree p) leaf.are_least timed in
    let joined : p.scale * cost p walks ≤ p.scale * cost p plan = mul-le-mul_left p.scale (cost-classes p points d plan) in
    omega (arith, leaf.value_is, bases, least, joined)

-- an empty leaf has no plan
pub leaf-empty : (p : Problem) (windows : ℕ → ℕ → Option Window) (points : ℕ → List ℕ) (sides : List Side) → IsLeafEmpty p windows points sides →
    (d : ℕ) (plan : List (List Leg)) → IsPlanOfLeaf p windows sides d plan → ⊥
leaf-empty p windows points sides empty d plan of_leaf =
    empty.none (map (class_of p points d) (route_at plan empty.shipment))
    (route_timed p windows points sides d empty.shipment plan of_leaf.denominator empty.exists of_leaf.plan of_leaf.within of_leaf.obeys)

-- the bound of a leaf, whoever finds it, bounds the plans of the leaf
pub bounds-plans : (p : Problem) (windows : ℕ → ℕ → Option Window) (points : ℕ → List ℕ) (sides : List Side) (tables : List (List ClassShare)) (kind : Kind) (forced : Bool) (bound : LeafBound) → IsValid p →
    AllKeepRule p tables → IsBoundOf p windows points sides tables kind forced bound → BoundsPlans p windows sides bound
bounds-plans p windows points sides tables kind forced (Empty shipment) valid keep is =
    leaf-empty p windows points sides (record { shipment = shipment; exists = is.exists; none = is.none })
bounds-plans p windows points sides tables kind forced (Value value) valid keep is = leaf-bounds p windows points sides tables kind forced value valid keep is

pub leaves-bound-plans : LeavesBoundPlans
leaves-bound-plans = record { value = leaf-bounds; empty = leaf-empty }
