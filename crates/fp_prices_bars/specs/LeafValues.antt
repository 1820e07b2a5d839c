-- What a leaf is worth before shipments are made to go by classes, and where they are.
use Rattle.std.specs.Prelude.{ℕ, ◌+◌, ◌-◌, ◌*◌, ◌^◌, ◌<◌, ◌≤◌, ◌≡◌, List, sum_by}
use Rattle.std.specs.List.{AllZip}
use Rattle.fp_base_lists.specs.Numbered.{AllZipFrom}
use Rattle.fp_model.specs.declared.parts.Leg.{Leg}
use Rattle.fp_model.specs.declared.parts.Shipment.{Shipment}
use Rattle.fp_model.specs.Costs.{all_legs, departures_cost}
use Rattle.fp_prices.specs.LeafPricings.{AreChainsOf, PricingModel, allowed_at}
use Rattle.fp_prices_spans.specs.SpanCosts.{heads_at, ways_at}
use Rattle.fp_prices_spans.specs.SpanLeaves.{IsChargeOf}
use Rattle.fp_prices_spans.specs.SpanPrices.{leaf_span_price}
use Rattle.fp_prices_spans.specs.Spans.{ClassSpan}
use Rattle.fp_prices_spans.specs.Ways.{IsLeastCostVia}
use Rattle.fp_prices_bars.specs.declared.leaf_values.LeafValue.{LeafValue}

-- the bases and the least costs of a leaf with these chains come together to a total, and from each number of 128 bits so much takes off
-- what its spans do
pub record IsLeafTotal (m : PricingModel) (spans : List ClassSpan) (chains : List (List Leg)) (v : LeafValue) : Type 0 where
  pub costs : List ℕ
  pub charges : List ℕ
  pub least : AllZipFrom
      (λ k (s : Shipment) n. IsLeastCostVia m.leaf.setting.problem (heads_at m.leaf spans k) (ways_at m.leaf spans k) (allowed_at m.leaf k) s
      (leaf_span_price m.leaf.setting.problem m.tables spans (allowed_at m.leaf) m.kind chains k s.size) n)
      0 m.leaf.setting.problem.shipments costs
  pub are_charges : AllZip (IsChargeOf m.leaf.setting.problem (allowed_at m.leaf) chains) spans charges
  pub total : v.total ≡ m.leaf.setting.problem.scale * departures_cost m.leaf.setting.problem chains (all_legs chains) + sum_by (λ (n : ℕ). n) costs
  pub charged : (before : ℕ) → before < 2 ^ 128 → before - v.charges ≡ before - sum_by (λ (n : ℕ). n) charges

-- so for the chains that the leaf has
pub record IsLeafValueOf (m : PricingModel) (spans : List ClassSpan) (v : LeafValue) : Type 0 where
  pub of : (chains : List (List Leg)) → AreChainsOf m.leaf m.forced chains → IsLeafTotal m spans chains v
  pub small : v.total ≤ 2 ^ 127 + 2 ^ 125
