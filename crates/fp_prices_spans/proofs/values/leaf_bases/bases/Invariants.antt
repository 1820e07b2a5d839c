use Rattle.std.proofs.Common.{◌≡◌, ◌*◌, List}
use Rattle.fp_base_lists.specs.Below.{sum_below}
use Rattle.fp_model.specs.declared.parts.Leg.{Leg}
use Rattle.fp_prices.specs.LeafPricings.{AreChainsOf}
use Rattle.fp_prices_spans.specs.SpanCosts.{base_of}
use Rattle.fp_prices_spans.proofs.values.leaf_bases.bases.Given as goal

-- the total is that of the classes so far
abbrev pub invariant-loop-class : goal.invariant-loop-class
invariant-loop-class l = (chains : List (List Leg)) → AreChainsOf l.pricing.leaf l.pricing.forced chains →
    l.total ≡ l.pricing.leaf.setting.problem.scale * sum_below l.class (base_of l.pricing.leaf.setting.problem l.pricing.leaf.setting.network chains)
