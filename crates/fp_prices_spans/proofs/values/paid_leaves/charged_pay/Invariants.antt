use Rattle.std.proofs.Common.{List, take}
use Rattle.std.specs.Prelude.{All}
use Rattle.fp_model.specs.declared.parts.Leg.{Leg}
use Rattle.fp_prices.specs.LeafPricings.{AreChainsOf}
use Rattle.fp_prices_spans.proofs.PaidLeaves.{PaysWhereCharged}
use Rattle.fp_prices_spans.proofs.values.paid_leaves.charged_pay.Given as goal

-- the spans so far pay where they are charged
abbrev pub invariant-loop-span : goal.invariant-loop-span
invariant-loop-span l = (chains : List (List Leg)) → AreChainsOf l.leaf l.forced chains → All (PaysWhereCharged l.leaf l.points l.round chains) (take l.span-index l.spans)
