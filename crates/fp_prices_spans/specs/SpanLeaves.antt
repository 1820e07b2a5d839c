-- What a leaf of a search is worth under prices by spans: a number under which no plan of the leaf costs.
-- The relaxation over a partially time-expanded network: Boland, Hewitt, Marshall and Savelsbergh, "The Continuous-Time Service
-- Network Design Problem", Operations Research 65, 2017. Its bound by spans is this project's own.
use Rattle.std.specs.Prelude.{ℕ, ◌+◌, ◌-◌, ◌*◌, ◌^◌, ◌≤◌, ◌≡◌, ◌<◌, ◌⊎◌, List, [], ◌∷◌, length, Bool, true, false, sum_by, Option, ◌↔◌}
use Rattle.std.specs.List.{AllByRecursion, AllZip}
use Rattle.fp_base_lists.specs.Numbered.{AllZipFrom}
use Rattle.fp_model.specs.declared.parts.Leg.{Leg}
use Rattle.fp_model.specs.declared.parts.Shipment.{Shipment}
use Rattle.fp_model.specs.Costs.{all_legs, cost, departures_cost, has_leg}
use Rattle.fp_model.specs.Problem.{Problem, IsValid}
use Rattle.fp_flatnet.specs.declared.window_tables.Window.{Window}
use Rattle.fp_longestarcs.specs.Classes.{head_of}
use Rattle.fp_tree.specs.declared.sides.Side.{Side}
use Rattle.fp_allowed.specs.Allowed.{is_allowed}
use Rattle.fp_allowed.specs.Heads.{heads_within}
use Rattle.fp_prices.specs.declared.values.bounds.LeafBound.{LeafBound}
use Rattle.fp_prices.specs.declared.values.bounds.LeafBound.TheVariants.{Empty, Value}
use Rattle.fp_prices.specs.declared.leaf_prices.Kind.{Kind}
use Rattle.fp_prices.specs.Leaves.{IsChain, IsLeafValue, IsPlanOfLeaf}
use Rattle.fp_prices.specs.Prices.{AllKeepRule}
use Rattle.fp_prices.specs.Shares.{ClassShare}
use Rattle.fp_prices_spans.specs.MomentRuns.{AreAmong}
use Rattle.fp_prices_spans.specs.Spans.{ClassSpan}
use Rattle.fp_prices_spans.specs.SpanPrices.{holds, leaf_span_price}
use Rattle.fp_prices_spans.specs.SpanRules.{KeepSpanRules, KeepsMoneyRule, KeepsSetRule}
use Rattle.fp_prices_spans.specs.Ways.{IsEmptyVia, IsFirstWithoutVia, IsLeastCostVia, leaf_ways}

-- a span is charged at a leaf: it holds for a class that is allowed for some shipment and isn't free, so in no forced chain
pub record IsCharged (p : Problem) (allowed : ℕ → Leg → Bool) (chains : List (List Leg)) (span : ClassSpan) : Type 0 where
  pub class : Leg
  pub shipment : ℕ
  pub exists : shipment < length p.shipments
  pub allowed_for_it : allowed shipment class ≡ true
  pub held : holds span class ≡ true
  pub not_free : has_leg class (all_legs chains) ≡ false

-- what a span takes off the value of a leaf: its charge where it is charged, and nothing where it isn't
abbrev pub IsChargeOf : Problem → (ℕ → Leg → Bool) → (chains : List (List Leg)) → ClassSpan → ℕ → Type 0
IsChargeOf p allowed chains span n =
    (IsCharged p allowed chains span × (n ≡ span.charge)) ⊎ ((IsCharged p allowed chains span → ⊥) × (n ≡ 0))

-- each span that is charged at a leaf keeps the set rule by first points
abbrev pub ChargedKeepSetRule : Problem → (ℕ → ℕ → Option Window) → (first : ℕ → List ℕ) → (ℕ → Leg → Bool) → (chains : List (List Leg)) → List ClassSpan → Type 0
ChargedKeepSetRule p windows first allowed chains spans = AllByRecursion (λ span. IsCharged p allowed chains span → KeepsSetRule p windows first span) spans

-- the heads by which the shipment with the number k goes at a leaf: where spans price it, those within the shipment's windows, and
-- else those of the classes
abbrev pub leaf_heads : Problem → (ℕ → ℕ → Option Window) → (ℕ → List ℕ) → List ClassSpan → ℕ → Leg → ℕ
leaf_heads p windows points [] k = head_of p points
leaf_heads p windows points (span ∷ spans) k = heads_within p windows points k

-- the value of a leaf that isn't empty, under prices by spans: the bases, which are what the trucks of the forced chains cost, and the
-- least cost of each shipment over the walks by the leaf's heads that go by its ways, less the charge of each span that is charged, once
-- each, and at least 0
pub record IsSpanLeafValue (p : Problem) (windows : ℕ → ℕ → Option Window) (points : ℕ → List ℕ) (sides : List Side) (tables : List (List ClassShare)) (spans : List ClassSpan) (kind : Kind) (forced : Bool) (value : ℕ) : Type 0 where
  pub chains : List (List Leg)
  pub costs : List ℕ
  pub charges : List ℕ
  pub are_chains : AllZipFrom (λ k. IsChain p (is_allowed p windows points sides k) forced) 0 p.shipments chains
  pub are_least : AllZipFrom
      (λ k (s : Shipment) n. IsLeastCostVia p (leaf_heads p windows points spans k) (leaf_ways p sides spans k) (is_allowed p windows points sides k) s
      (leaf_span_price p tables spans (is_allowed p windows points sides) kind chains k s.size) n)
      0 p.shipments costs
  pub are_charges : AllZip (IsChargeOf p (is_allowed p windows points sides) chains) spans charges
  pub value_is : value ≡ p.scale * departures_cost p chains (all_legs chains) + sum_by (λ (n : ℕ). n) costs - sum_by (λ (n : ℕ). n) charges

-- a leaf is empty by its heads and its ways: some shipment has no allowed walk by them
abbrev pub IsSpanLeafEmpty : Problem → (ℕ → ℕ → Option Window) → (ℕ → List ℕ) → List Side → List ClassSpan → Type 0
IsSpanLeafEmpty p windows points sides spans = IsEmptyVia p (leaf_heads p windows points spans) (leaf_ways p sides spans) (is_allowed p windows points sides)

-- the bound of a leaf under prices by spans: that it is empty, by its first shipment without an allowed walk by the leaf's heads and ways,
-- or its value
abbrev pub IsSpanBoundOf : Problem → (ℕ → ℕ → Option Window) → (ℕ → List ℕ) → List Side → List (List ClassShare) → List ClassSpan → Kind → Bool → LeafBound → Type 0
IsSpanBoundOf p windows points sides tables spans kind forced (Empty shipment) =
    IsFirstWithoutVia p (leaf_heads p windows points spans) (leaf_ways p sides spans) (is_allowed p windows points sides) shipment
IsSpanBoundOf p windows points sides tables spans kind forced (Value value) = IsSpanLeafValue p windows points sides tables spans kind forced value

-- a value is below 2^128
abbrev pub IsSmallSpanBound : LeafBound → Type 0
IsSmallSpanBound (Empty shipment) = Unit {0}
IsSmallSpanBound (Value value) = value ≤ 2 ^ 127 + 2 ^ 125

-- every value of a leaf by spans that keep their rules, whoever finds it, bounds the plans of the leaf; the spans keep the set rule by
-- first points, which are all points of the leaf
abbrev pub SpanValuesBoundPlans : Type 0
SpanValuesBoundPlans =
    (p : Problem) (windows : ℕ → ℕ → Option Window) (first points : ℕ → List ℕ) (sides : List Side) (tables : List (List ClassShare)) (spans : List ClassSpan) (kind : Kind) (forced : Bool) (v : ℕ) → IsValid p →
    AreAmong p first points → AllKeepRule p tables → KeepSpanRules p windows first spans → IsSpanLeafValue p windows points sides tables spans kind forced v →
    (d : ℕ) (routes : List (List Leg)) → IsPlanOfLeaf p windows sides d routes → v ≤ p.scale * cost p routes

-- the set rule is asked only of spans that are charged at the leaf: the others may break it, and the value bounds the leaf's plans still
abbrev pub ChargedSpansBoundPlans : Type 0
ChargedSpansBoundPlans =
    (p : Problem) (windows : ℕ → ℕ → Option Window) (first points : ℕ → List ℕ) (sides : List Side) (tables : List (List ClassShare)) (spans : List ClassSpan) (kind : Kind) (forced : Bool) (v : ℕ) → IsValid p →
    AreAmong p first points → AllKeepRule p tables → AllByRecursion (KeepsMoneyRule p spans) spans → (leaf : IsSpanLeafValue p windows points sides tables spans kind forced v) →
    ChargedKeepSetRule p windows first (is_allowed p windows points sides) leaf.chains spans → (d : ℕ) (routes : List (List Leg)) → IsPlanOfLeaf p windows sides d routes → v ≤ p.scale * cost p routes

-- a leaf has one value only, whatever the windows, points, sides and prices, and none where it is empty
pub record SpanLeavesHaveOneValue : Type 0 where
  pub one : (p : Problem) (windows : ℕ → ℕ → Option Window) (points : ℕ → List ℕ) (sides : List Side) (tables : List (List ClassShare)) (spans : List ClassSpan) (kind : Kind) (forced : Bool) (v w : ℕ) →
      IsSpanLeafValue p windows points sides tables spans kind forced v → IsSpanLeafValue p windows points sides tables spans kind forced w → v ≡ w
  pub some : (p : Problem) (windows : ℕ → ℕ → Option Window) (points : ℕ → List ℕ) (sides : List Side) (tables : List (List ClassShare)) (spans : List ClassSpan) (kind : Kind) (forced : Bool) (v : ℕ) →
      IsSpanLeafValue p windows points sides tables spans kind forced v → IsSpanLeafEmpty p windows points sides spans → ⊥

-- without spans, the value is that by the tables alone
abbrev pub ValuesWithoutSpans : Type 0
ValuesWithoutSpans =
    (p : Problem) (windows : ℕ → ℕ → Option Window) (points : ℕ → List ℕ) (sides : List Side) (tables : List (List ClassShare)) (kind : Kind) (forced : Bool) (v : ℕ) →
    IsSpanLeafValue p windows points sides tables [] kind forced v ↔ IsLeafValue p windows points sides tables kind forced v
