-- What is found of a leaf by spans, less the charges, is its bound by spans.
use Rattle.std.proofs.Common.{ℕ, List, map, arith}
use Rattle.fp_model.specs.declared.parts.Leg.{Leg}
use Rattle.fp_model.specs.Numbered.{route_at}
use Rattle.fp_model.specs.Problem.{IsValid, Problem}
use Rattle.fp_flatnet.specs.Tables.{windows_in}
use Rattle.fp_longestarcs.specs.Classes.{class_of}
use Rattle.fp_longestarcs.specs.Networks.{points_in}
use Rattle.fp_prices.specs.declared.values.bounds.LeafBound.{LeafBound}
use Rattle.fp_prices.specs.declared.values.bounds.LeafBound.TheVariants.{Empty, Value}
use Rattle.fp_prices.specs.LeafPricings.{AreChainsOf, PricingModel}
use Rattle.fp_prices.specs.Leaves.{BoundsPlans}
use Rattle.fp_prices.specs.Prices.{AllKeepRule}
use Rattle.fp_prices_spans.specs.MomentRuns.{AreAmong}
use Rattle.fp_prices_spans.specs.SpanCosts.{AreBases, HasChains, IsAfterCharges, IsValueBySpans}
use Rattle.fp_prices_spans.specs.SpanLeaves.{IsSpanBoundOf, IsSpanLeafValue}
use Rattle.fp_prices_spans.specs.SpanRules.{KeepSpanRules}
use Rattle.fp_prices_spans.specs.Spans.{ClassSpan}
use Rattle.fp_prices_spans.proofs.LeafWays.{leaf_route-via}
use Rattle.fp_prices_spans.proofs.SpanBounds.{span_leaf-bounds}

module _ (m : PricingModel) (spans : List ClassSpan) where
  abbrev own : Problem
  own = m.leaf.setting.problem

  -- what is found less what the spans take off is the value
  pub value-after : (bases value left : ℕ) → HasChains m.leaf m.forced → AreBases m bases → IsValueBySpans m spans bases value →
      ((chains : List (List Leg)) → AreChainsOf m.leaf m.forced chains → IsAfterCharges m spans chains value left) →
      IsSpanLeafValue own (windows_in m.leaf.setting.windows) (points_in m.leaf.setting.network) m.leaf.sides m.tables spans m.kind m.forced left
  value-after bases value left has are found after =
      let off : IsAfterCharges m spans has.0 value left = after has.0 has.1 in
      record {
        chains = has.0;
        costs = found.costs;
        charges = off.charges;
        are_chains = has.1;
        are_least = found.least has.0 has.1;
        are_charges = off.are;
        value_is = omega (arith, off.is, found.is, are.cost_so has.0 has.1);
      }

  -- a bound by spans that keep their rules bounds the plans
  pub bound-plans : (first : ℕ → List ℕ) (b : LeafBound) → IsValid own → AreAmong own first (points_in m.leaf.setting.network) → AllKeepRule own m.tables →
      KeepSpanRules own (windows_in m.leaf.setting.windows) first spans →
      IsSpanBoundOf own (windows_in m.leaf.setting.windows) (points_in m.leaf.setting.network) m.leaf.sides m.tables spans m.kind m.forced b → BoundsPlans own (windows_in m.leaf.setting.windows) m.leaf.sides b
  bound-plans first (Empty shipment) valid among keep rules is = λ d plan of_leaf.
      is.none (map (class_of own (points_in m.leaf.setting.network) d) (route_at plan shipment))
      (leaf_route-via own (windows_in m.leaf.setting.windows) (points_in m.leaf.setting.network) m.leaf.sides spans d shipment plan is.exists of_leaf)
  bound-plans first (Value value) valid among keep rules is =
      span_leaf-bounds own (windows_in m.leaf.setting.windows) first (points_in m.leaf.setting.network) m.leaf.sides m.tables spans m.kind m.forced value valid among keep rules is
