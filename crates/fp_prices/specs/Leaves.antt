-- What a leaf of a search is worth: a number under which no plan costs that obeys the leaf's sides.
-- The relaxation over a partially time-expanded network: Boland, Hewitt, Marshall and Savelsbergh, "The Continuous-Time Service
-- Network Design Problem", Operations Research 65, 2017. Its bound by prices and forced classes is this project's own.
use Rattle.std.specs.Prelude.{ℕ, ◌+◌, ◌*◌, ◌≤◌, ◌≡◌, ◌<◌, List, [], Bool, true, false, if◌then◌else◌, sum_by, length, Option}
use Rattle.fp_model.specs.declared.parts.Leg.{Leg}
use Rattle.fp_model.specs.declared.parts.Shipment.{Shipment}
use Rattle.fp_model.specs.Costs.{all_legs, cost, departures_cost, has_leg}
use Rattle.fp_model.specs.Numbered.{shipment_at}
use Rattle.fp_base_lists.specs.Numbered.{AllZipFrom}
use Rattle.fp_model.specs.Plans.{IsPlan}
use Rattle.fp_model.specs.Problem.{Problem, IsValid, arc_at, alone_total}
use Rattle.fp_flatnet.specs.declared.window_tables.Window.{Window}
use Rattle.fp_flatnet.specs.Tables.{WindowTable, windows_in}
use Rattle.fp_flatnet.specs.Windows.{PlanLiesWithinWhole}
use Rattle.fp_longestarcs.specs.Classes.{head_of}
use Rattle.fp_tree.specs.declared.sides.Side.{Side}
use Rattle.fp_allowed.specs.Allowed.{IsForcedChain, PlanObeys, is_allowed}
use Rattle.fp_allowed.specs.Walks.{IsWalkBy}
use Rattle.fp_allowed.specs.WindowsUnder.{AreWindowRowsUnder}
use Rattle.fp_prices.specs.declared.leaf_prices.Kind.{Kind}
use Rattle.fp_prices.specs.declared.values.bounds.LeafBound.{LeafBound}
use Rattle.fp_prices.specs.declared.values.bounds.LeafBound.TheVariants.{Empty, Value}
use Rattle.fp_prices.specs.Shares.{ClassShare}
use Rattle.fp_prices.specs.Prices.{AllKeepRule, truck_price}

-- what a timed walk costs under prices: for each class its price and the shipment's flow
abbrev pub walk_cost : Problem → (Leg → ℕ) → ℕ → List Leg → ℕ
walk_cost p price size walk = sum_by (λ (c : Leg). price c + p.scale * (arc_at p c.arc).freight * size) walk

-- the least cost of an allowed walk of a shipment by heads
pub record IsLeastCostBy (p : Problem) (heads : Leg → ℕ) (allowed : Leg → Bool) (s : Shipment) (price : Leg → ℕ) (n : ℕ) : Type 0 where
  pub walk : List Leg
  pub timed : IsWalkBy p heads allowed s walk
  pub cost : walk_cost p price s.size walk ≡ n
  pub least : (other : List Leg) → IsWalkBy p heads allowed s other → n ≤ walk_cost p price s.size other

-- the least cost of an allowed timed walk of a shipment
abbrev pub IsLeastCost : Problem → (ℕ → List ℕ) → (Leg → Bool) → Shipment → (Leg → ℕ) → ℕ → Type 0
IsLeastCost p points allowed s price n = IsLeastCostBy p (head_of p points) allowed s price n

-- the price of a class for a shipment at a leaf: nothing for a class of the forced chains, and otherwise its truck price
abbrev pub leaf_price : Problem → List (List ClassShare) → (ℕ → Leg → Bool) → Kind → (chains : List (List Leg)) → (k size : ℕ) → Leg → ℕ
leaf_price p tables allowed kind chains k size c = if has_leg c (all_legs chains) then 0 else truck_price p tables allowed kind c k size

-- the forced classes of a shipment that a leaf counts: its forced chain, or none where the leaf is plain
abbrev pub IsChain : Problem → (Leg → Bool) → Bool → Shipment → List Leg → Type 0
IsChain p allowed true s chain = IsForcedChain p allowed s chain
IsChain p allowed false s chain = chain ≡ []

-- the value of a leaf that isn't empty: the bases, which are what the trucks of the forced chains cost, and the least cost of each shipment
pub record IsLeafValue (p : Problem) (windows : ℕ → ℕ → Option Window) (points : ℕ → List ℕ) (sides : List Side) (tables : List (List ClassShare)) (kind : Kind) (forced : Bool) (value : ℕ) : Type 0 where
  pub chains : List (List Leg)
  pub costs : List ℕ
  pub are_chains : AllZipFrom (λ k. IsChain p (is_allowed p windows points sides k) forced) 0 p.shipments chains
  pub are_least : AllZipFrom
      (λ k (s : Shipment) n. IsLeastCost p points (is_allowed p windows points sides k) s (leaf_price p tables (is_allowed p windows points sides) kind chains k s.size) n)
      0 p.shipments costs
  pub value_is : value ≡ p.scale * departures_cost p chains (all_legs chains) + sum_by (λ (n : ℕ). n) costs

-- a shipment has no allowed walk by heads
abbrev pub HasNoWalkBy : Problem → (Leg → ℕ) → (Leg → Bool) → Shipment → Type 0
HasNoWalkBy p heads allowed s = (walk : List Leg) → IsWalkBy p heads allowed s walk → ⊥

-- by heads for each shipment, some shipment has no allowed walk
pub record IsEmptyBy (p : Problem) (heads : ℕ → Leg → ℕ) (allowed : ℕ → Leg → Bool) : Type 0 where
  pub shipment : ℕ
  pub exists : shipment < length p.shipments
  pub none : HasNoWalkBy p (heads shipment) (allowed shipment) (shipment_at p shipment)

-- by heads for each shipment, the one with the number k is the first that has no allowed walk
pub record IsFirstWithoutBy (p : Problem) (heads : ℕ → Leg → ℕ) (allowed : ℕ → Leg → Bool) (k : ℕ) : Type 0 where
  pub exists : k < length p.shipments
  pub none : HasNoWalkBy p (heads k) (allowed k) (shipment_at p k)
  pub before : (j : ℕ) → j < k → HasNoWalkBy p (heads j) (allowed j) (shipment_at p j) → ⊥

-- the shipment with the number k has no allowed timed walk
abbrev pub HasNoWalk : Problem → (ℕ → ℕ → Option Window) → (ℕ → List ℕ) → List Side → ℕ → Type 0
HasNoWalk p windows points sides k = HasNoWalkBy p (head_of p points) (is_allowed p windows points sides k) (shipment_at p k)

-- a leaf is empty where some shipment has no allowed timed walk
abbrev pub IsLeafEmpty : Problem → (ℕ → ℕ → Option Window) → (ℕ → List ℕ) → List Side → Type 0
IsLeafEmpty p windows points sides = IsEmptyBy p (λ k. head_of p points) (is_allowed p windows points sides)

-- the shipment with the number k is the first that has no allowed timed walk
abbrev pub IsFirstWithout : Problem → (ℕ → ℕ → Option Window) → (ℕ → List ℕ) → List Side → ℕ → Type 0
IsFirstWithout p windows points sides k = IsFirstWithoutBy p (λ k. head_of p points) (is_allowed p windows points sides) k

-- the bound of a leaf: that it is empty, by its first shipment without an allowed timed walk, or its value
abbrev pub IsBoundOf : Problem → (ℕ → ℕ → Option Window) → (ℕ → List ℕ) → List Side → List (List ClassShare) → Kind → Bool → LeafBound → Type 0
IsBoundOf p windows points sides tables kind forced (Empty shipment) = IsFirstWithout p windows points sides shipment
IsBoundOf p windows points sides tables kind forced (Value value) = IsLeafValue p windows points sides tables kind forced value

-- a plan over the denominator d of the leaf: it lies within the windows by its whole moments, and obeys the sides
pub record IsPlanOfLeaf (p : Problem) (windows : ℕ → ℕ → Option Window) (sides : List Side) (d : ℕ) (routes : List (List Leg)) : Type 0 where
  pub denominator : 1 ≤ d
  pub plan : IsPlan p d routes
  pub within : PlanLiesWithinWhole windows d routes
  pub obeys : PlanObeys p d sides routes

-- a plan of a leaf is one of the leaf over the windows that the leaf's sides narrow, under the same sides
abbrev pub LeafWindowsKeepPlans : Type 0
LeafWindowsKeepPlans =
    (p : Problem) (windows : ℕ → ℕ → Option Window) (sides : List Side) (narrower : WindowTable) → AreWindowRowsUnder p windows sides narrower.rows →
    (d : ℕ) (routes : List (List Leg)) → IsPlanOfLeaf p windows sides d routes → IsPlanOfLeaf p (windows_in narrower) sides d routes

-- for every denominator, no plan of the leaf costs less: the scale times its cost is at least the value, and where the leaf is empty there is no such plan
abbrev pub BoundsPlans : Problem → (ℕ → ℕ → Option Window) → List Side → LeafBound → Type 0
BoundsPlans p windows sides (Empty shipment) = (d : ℕ) (routes : List (List Leg)) → IsPlanOfLeaf p windows sides d routes → ⊥
BoundsPlans p windows sides (Value value) = (d : ℕ) (routes : List (List Leg)) → IsPlanOfLeaf p windows sides d routes → value ≤ p.scale * cost p routes

-- a value is at most 65,537 times what all shipments cost that each go over every arc alone; for a valid instance it is below 2^128
abbrev pub IsSmallBound : Problem → LeafBound → Type 0
IsSmallBound p (Empty shipment) = Unit {0}
IsSmallBound p (Value value) = value ≤ p.scale * 65537 * alone_total p.arcs p.shipments

-- a leaf has one value only, whatever the windows, points, sides and prices, and none where it is empty
pub record LeavesHaveOneValue : Type 0 where
  pub one : (p : Problem) (windows : ℕ → ℕ → Option Window) (points : ℕ → List ℕ) (sides : List Side) (tables : List (List ClassShare)) (kind : Kind) (forced : Bool) (v w : ℕ) →
      IsLeafValue p windows points sides tables kind forced v → IsLeafValue p windows points sides tables kind forced w → v ≡ w
  pub some : (p : Problem) (windows : ℕ → ℕ → Option Window) (points : ℕ → List ℕ) (sides : List Side) (tables : List (List ClassShare)) (kind : Kind) (forced : Bool) (v : ℕ) →
      IsLeafValue p windows points sides tables kind forced v → IsLeafEmpty p windows points sides → ⊥

-- every value of a leaf, whoever finds it, bounds the plans of the leaf, and an empty leaf has none
pub record LeavesBoundPlans : Type 0 where
  pub value : (p : Problem) (windows : ℕ → ℕ → Option Window) (points : ℕ → List ℕ) (sides : List Side) (tables : List (List ClassShare)) (kind : Kind) (forced : Bool) (v : ℕ) → IsValid p → AllKeepRule p tables →
      IsLeafValue p windows points sides tables kind forced v → (d : ℕ) (routes : List (List Leg)) → IsPlanOfLeaf p windows sides d routes → v ≤ p.scale * cost p routes
  pub empty : (p : Problem) (windows : ℕ → ℕ → Option Window) (points : ℕ → List ℕ) (sides : List Side) →
      IsLeafEmpty p windows points sides → (d : ℕ) (routes : List (List Leg)) → IsPlanOfLeaf p windows sides d routes → ⊥
