-- What shipments cost at a leaf under prices by spans, what its forced chains cost, and what its spans take off.
use Rattle.std.specs.Prelude.{ℕ, ◌+◌, ◌-◌, ◌*◌, ◌≡◌, ◌<◌, ◌≤◌, List, Bool, true, Option, IfSome, length, slice_index, sum_by, if◌then◌else◌}
use Rattle.std.specs.List.{AllZip}
use Rattle.fp_model.specs.declared.parts.Leg.{Leg}
use Rattle.fp_model.specs.declared.parts.Shipment.{Shipment}
use Rattle.fp_model.specs.Costs.{all_legs, departure_cost, departures_cost, has_leg}
use Rattle.fp_base_lists.specs.Numbered.{AllZipFrom}
use Rattle.fp_model.specs.Numbered.{shipment_at}
use Rattle.fp_model.specs.Problem.{Problem, alone_cost, alone_total, arc_at}
use Rattle.fp_flatnet.specs.Tables.{windows_in}
use Rattle.fp_longestarcs.specs.Networks.{TimedNetwork, points_in}
use Rattle.fp_allowed.specs.Listing.{class_at}
use Rattle.fp_prices.specs.declared.values.bounds.LeafBound.{LeafBound}
use Rattle.fp_prices.specs.declared.values.bounds.LeafBound.TheVariants.{Empty, Value}
use Rattle.fp_prices.specs.ClassCosts.{HoldsClassCosts}
use Rattle.fp_prices.specs.LeafPricings.{AreChainsOf, PricingModel, allowed_at}
use Rattle.fp_prices.specs.Prices.{weight_in}
use Rattle.fp_prices.specs.Rounds.{LeafModel}
use Rattle.fp_prices_spans.specs.Spans.{ClassSpan}
use Rattle.fp_prices_spans.specs.SpanLeaves.{IsChargeOf, leaf_heads}
use Rattle.fp_prices_spans.specs.SpanPrices.{leaf_span_price}
use Rattle.fp_prices_spans.specs.Ways.{IsFirstWithoutVia, IsLeastCostVia, IsLeastVia, leaf_ways, ways_fit}

-- the leaf has chains that it counts
abbrev pub HasChains : LeafModel → Bool → Type 0
HasChains leaf forced = (chains : List (List Leg)) × AreChainsOf leaf forced chains

-- the prices by spans of the shipment with the number k, where the leaf's chains are these
abbrev pub span_prices_at : PricingModel → List ClassSpan → (chains : List (List Leg)) → ℕ → Leg → ℕ
span_prices_at m spans chains k =
    leaf_span_price m.leaf.setting.problem m.tables spans (allowed_at m.leaf) m.kind chains k (shipment_at m.leaf.setting.problem k).size

-- what the classes cost the shipment with the number k, by their numbers
abbrev pub AreSpanCostsOf : PricingModel → List ClassSpan → ℕ → List (Option ℕ) → Type 0
AreSpanCostsOf m spans k costs =
    (chains : List (List Leg)) → AreChainsOf m.leaf m.forced chains →
    HoldsClassCosts m.leaf.setting.problem m.leaf.setting.network (allowed_at m.leaf k) (span_prices_at m spans chains k) (shipment_at m.leaf.setting.problem k).size costs

-- the heads by which the shipment with the number k goes at a leaf
abbrev pub heads_at : LeafModel → List ClassSpan → ℕ → Leg → ℕ
heads_at leaf spans k = leaf_heads leaf.setting.problem (windows_in leaf.setting.windows) (points_in leaf.setting.network) spans k

-- and the arcs by which its walks go
abbrev pub ways_at : LeafModel → List ClassSpan → ℕ → List ℕ
ways_at leaf spans k = leaf_ways leaf.setting.problem leaf.sides spans k

-- the least cost of the shipment with the number k, or that it has no allowed walk by the leaf's heads and ways
abbrev pub IsLeastBySpans : PricingModel → List ClassSpan → ℕ → Option ℕ → Type 0
IsLeastBySpans m spans k cost =
    (chains : List (List Leg)) → AreChainsOf m.leaf m.forced chains →
    IsLeastVia m.leaf.setting.problem (heads_at m.leaf spans k) (ways_at m.leaf spans k) (allowed_at m.leaf k) (shipment_at m.leaf.setting.problem k) (span_prices_at m spans chains k) cost

-- how many times the points a search goes over at most
abbrev pub most_layers : Problem → ℕ
most_layers p = if ways_fit p then 16 else 1

-- the weights of the shipment with the number k in all spans
abbrev pub own_weights : List ClassSpan → ℕ → ℕ
own_weights spans k = sum_by (λ (span : ClassSpan). weight_in span.weights k) spans

-- the least cost, if there is one, is at most 65,536 times the scaled cost of going over every arc alone and the shipment's weights, for
-- each layer
abbrev pub IsSmallBySpans : Problem → List ClassSpan → ℕ → Option ℕ → Type 0
IsSmallBySpans p spans k cost =
    IfSome cost (λ n. n ≤ most_layers p * (65536 * (p.scale * sum_by (alone_cost (shipment_at p k).size) p.arcs + own_weights spans k)))

-- what the trucks cost of the class with a number, where some chain has it
abbrev pub base_of : Problem → TimedNetwork → (chains : List (List Leg)) → ℕ → ℕ
base_of p net chains n = if has_leg (class_at net n) (all_legs chains) then departure_cost p chains (class_at net n) else 0

-- what the trucks of the leaf's chains cost
pub record AreBases (m : PricingModel) (bases : ℕ) : Type 0 where
  pub cost_so : (chains : List (List Leg)) → AreChainsOf m.leaf m.forced chains → bases ≡ m.leaf.setting.problem.scale * departures_cost m.leaf.setting.problem chains (all_legs chains)
  pub small : bases ≤ m.leaf.setting.problem.scale * alone_total m.leaf.setting.problem.arcs m.leaf.setting.problem.shipments

-- a class is allowed for some shipment
pub record IsUsable (leaf : LeafModel) (class : Leg) : Type 0 where
  pub shipment : ℕ
  pub exists : shipment < length leaf.setting.problem.shipments
  pub allows : allowed_at leaf shipment class ≡ true

-- a number is another one less what the spans take off, and at least 0
pub record IsAfterCharges (m : PricingModel) (spans : List ClassSpan) (chains : List (List Leg)) (before after : ℕ) : Type 0 where
  pub charges : List ℕ
  pub are : AllZip (IsChargeOf m.leaf.setting.problem (allowed_at m.leaf) chains) spans charges
  pub is : after ≡ before - sum_by (λ (n : ℕ). n) charges

-- what the class with a number costs the shipment with the number k, where these are the prices of the classes: its price and the flow
abbrev pub cost_at : Problem → TimedNetwork → (sums : List ℕ) → (k n : ℕ) → ℕ
cost_at p net sums k n = slice_index sums n + p.scale * (arc_at p (class_at net n).arc).freight * (shipment_at p k).size

-- a value is the bases and the least cost of each shipment
pub record IsValueBySpans (m : PricingModel) (spans : List ClassSpan) (bases value : ℕ) : Type 0 where
  pub costs : List ℕ
  pub least : (chains : List (List Leg)) → AreChainsOf m.leaf m.forced chains →
      AllZipFrom
      (λ k (s : Shipment) n. IsLeastCostVia m.leaf.setting.problem (heads_at m.leaf spans k) (ways_at m.leaf spans k) (allowed_at m.leaf k) s
      (leaf_span_price m.leaf.setting.problem m.tables spans (allowed_at m.leaf) m.kind chains k s.size) n)
      0 m.leaf.setting.problem.shipments costs
  pub is : value ≡ bases + sum_by (λ (n : ℕ). n) costs

-- what is found before the charges are taken off: the value, or the first shipment without an allowed walk by the leaf's heads and ways
abbrev pub IsFoundBySpans : PricingModel → List ClassSpan → (bases : ℕ) → LeafBound → Type 0
IsFoundBySpans m spans bases (Empty shipment) =
    IsFirstWithoutVia m.leaf.setting.problem (heads_at m.leaf spans) (ways_at m.leaf spans) (allowed_at m.leaf) shipment
IsFoundBySpans m spans bases (Value value) = IsValueBySpans m spans bases value
