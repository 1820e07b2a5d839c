-- Classes that a shipment doesn't use in any plan of a leaf that costs less than an amount, and the sides that bar them.
use Rattle.std.specs.Prelude.{ℕ, ◌+◌, ◌-◌, ◌*◌, ◌≤◌, ◌<◌, ◌≡◌, ◌⊎◌, ◌↔◌, nat_eq, Bool, true, List, length, All, Contains, MatchBool, Option, sum_by}
use Rattle.std.specs.List.{AllZip}
use Rattle.fp_base_lists.specs.Numbered.{AllZipFrom}
use Rattle.fp_model.specs.declared.limits.TheConstants.{LATEST}
use Rattle.fp_model.specs.declared.parts.Leg.{Leg}
use Rattle.fp_model.specs.declared.parts.Shipment.{Shipment}
use Rattle.fp_model.specs.Costs.{all_legs, departures_cost}
use Rattle.fp_model.specs.Numbered.{shipment_at}
use Rattle.fp_model.specs.Problem.{Problem}
use Rattle.fp_flatnet.specs.declared.window_tables.Window.{Window}
use Rattle.fp_longestarcs.specs.Classes.{class_of}
use Rattle.fp_tree.specs.declared.sides.Side.{Side}
use Rattle.fp_tree.specs.declared.sides.Side.TheVariants.{Outside}
use Rattle.fp_allowed.specs.Allowed.{exit_of, is_allowed, meets_all}
use Rattle.fp_allowed.specs.Walks.{IsWalkBy}
use Rattle.fp_prices.specs.declared.leaf_prices.Kind.{Kind}
use Rattle.fp_prices.specs.Leaves.{IsChain, walk_cost}
use Rattle.fp_prices.specs.Shares.{ClassShare}
use Rattle.fp_prices_spans.specs.Spans.{ClassSpan}
use Rattle.fp_prices_spans.specs.SpanLeaves.{IsChargeOf, IsSpanLeafValue, leaf_heads}
use Rattle.fp_prices_spans.specs.SpanPrices.{leaf_span_price}
use Rattle.fp_prices_spans.specs.Ways.{IsLeastCostVia, leaf_ways, ways_fit}

-- a side that bars a run of departures of a shipment by an arc: both exist, and the run ends no later than time does
abbrev pub IsBar : Problem → Side → Type 0
IsBar p (Outside shipment arc point until) = (shipment < length p.shipments) × (arc < length p.arcs) × (until ≤ LATEST + 1)
IsBar p _ = ⊥

-- sides bar exactly the classes that are barred for a shipment: a leg of it that leaves at a whole moment meets them all exactly where its
-- class isn't barred
pub record AreBarsOf (p : Problem) (points : ℕ → List ℕ) (IsBarred : (shipment : ℕ) → Leg → Type 0) (bars : List Side) : Type 0 where
  pub are : All (IsBar p) bars
  pub exact : (k : ℕ) (l : Leg) → k < length p.shipments → l.arc < length p.arcs → l.depart ≤ LATEST →
      (meets_all k bars (exit_of p l) ≡ true) ↔ (IsBarred k (class_of p points 1 l) → ⊥)

-- the least cost of the allowed walks of a shipment by heads that have a class
pub record IsLeastCostThrough (p : Problem) (heads : Leg → ℕ) (allowed : Leg → Bool) (s : Shipment) (price : Leg → ℕ) (class : Leg) (n : ℕ) : Type 0 where
  pub walk : List Leg
  pub is : IsWalkBy p heads allowed s walk
  pub has : Contains walk class
  pub cost : walk_cost p price s.size walk ≡ n
  pub least : (other : List Leg) → IsWalkBy p heads allowed s other → Contains other class → n ≤ walk_cost p price s.size other

-- no allowed walk of a shipment by heads has a class
abbrev pub HasNoWalkThrough : Problem → (Leg → ℕ) → (Leg → Bool) → Shipment → Leg → Type 0
HasNoWalkThrough p heads allowed s class = (walk : List Leg) → IsWalkBy p heads allowed s walk → Contains walk class → ⊥

-- the value of a leaf under prices by spans, where the shipment with the number k is made to go by a class: what it costs then is the least
-- cost of its walks that have the class. These need not go by the arcs that sides ask it to go by
pub record IsSpanValueThrough (p : Problem) (windows : ℕ → ℕ → Option Window) (points : ℕ → List ℕ) (sides : List Side) (tables : List (List ClassShare)) (spans : List ClassSpan) (kind : Kind) (forced : Bool) (k : ℕ) (class : Leg) (value : ℕ) : Type 0 where
  pub chains : List (List Leg)
  pub costs : List ℕ
  pub charges : List ℕ
  pub are_chains : AllZipFrom (λ j. IsChain p (is_allowed p windows points sides j) forced) 0 p.shipments chains
  pub are_least : AllZipFrom
      (λ j (s : Shipment) n. MatchBool (nat_eq j k)
      (IsLeastCostThrough p (leaf_heads p windows points spans j) (is_allowed p windows points sides j) s (leaf_span_price p tables spans (is_allowed p windows points sides) kind chains j s.size) class n)
      (IsLeastCostVia p (leaf_heads p windows points spans j) (leaf_ways p sides spans j) (is_allowed p windows points sides j) s (leaf_span_price p tables spans (is_allowed p windows points sides) kind chains j s.size) n))
      0 p.shipments costs
  pub are_charges : AllZip (IsChargeOf p (is_allowed p windows points sides) chains) spans charges
  pub value_is : value ≡ p.scale * departures_cost p chains (all_legs chains) + sum_by (λ (n : ℕ). n) costs - sum_by (λ (n : ℕ). n) charges

-- a class is barred for the shipment with the number k at a leaf: the leaf has a value, the class is allowed for the shipment, and either
-- no walk of it has the class, or the value where it is made to go by the class is worth something. Nothing is barred where sums of prices
-- over more points don't fit
pub record IsSpanBarred (p : Problem) (windows : ℕ → ℕ → Option Window) (points : ℕ → List ℕ) (sides : List Side) (tables : List (List ClassShare)) (spans : List ClassSpan) (kind : Kind) (forced : Bool) (IsWorth : ℕ → Type 0) (k : ℕ) (class : Leg) : Type 0 where
  pub fits : ways_fit p ≡ true
  pub exists : k < length p.shipments
  pub allows : is_allowed p windows points sides k class ≡ true
  pub value : ℕ
  pub leaf : IsSpanLeafValue p windows points sides tables spans kind forced value
  pub why :
      HasNoWalkThrough p (leaf_heads p windows points spans k) (is_allowed p windows points sides k) (shipment_at p k) class
      ⊎ ((through : ℕ) × IsSpanValueThrough p windows points sides tables spans kind forced k class through × IsWorth through)

-- the bars of a leaf under prices by spans
abbrev pub AreSpanBars : Problem → (ℕ → ℕ → Option Window) → (ℕ → List ℕ) → List Side → List (List ClassShare) → List ClassSpan → Kind → Bool → (ℕ → Type 0) → List Side → Type 0
AreSpanBars p windows points sides tables spans kind forced IsWorth bars = AreBarsOf p points (IsSpanBarred p windows points sides tables spans kind forced IsWorth) bars
