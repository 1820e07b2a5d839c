use Rattle.std.proofs.Common.{List, take}
use Rattle.fp_model.specs.declared.parts.Leg.{Leg}
use Rattle.fp_prices.specs.LeafPricings.{AreChainsOf}
use Rattle.fp_prices_spans.specs.SpanCosts.{IsAfterCharges}
use Rattle.fp_prices_spans.proofs.values.leaf_charges.after_charges.Given as goal

-- the charges of the spans so far are taken off
abbrev pub invariant-loop-span : goal.invariant-loop-span
invariant-loop-span l = (chains : List (List Leg)) → AreChainsOf l.pricing.leaf l.pricing.forced chains → IsAfterCharges l.pricing (take l.span-index l.spans) chains l.value l.left
