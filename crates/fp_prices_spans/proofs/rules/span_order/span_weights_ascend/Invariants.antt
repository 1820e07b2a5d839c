use Rattle.std.proofs.Common.{◌<◌, take}
use Rattle.std.specs.Prelude.{All, AllPairs}
use Rattle.fp_prices.specs.declared.tables.Weight.{Weight}
use Rattle.fp_prices_spans.specs.Spans.{ClassSpan}
use Rattle.fp_prices_spans.proofs.rules.span_order.span_weights_ascend.Given as goal

-- the weights of the spans that were passed are in order
abbrev pub invariant-loop-span : goal.invariant-loop-span
invariant-loop-span l = All (λ (s : ClassSpan). AllPairs (λ (v w : Weight). v.shipment < w.shipment) s.weights) (take l.span-index l.spans)
