use Rattle.std.proofs.Common.{take}
use Rattle.fp_prices_spans.specs.ClassRanges.{ArePricesBySpans}
use Rattle.fp_prices_spans.proofs.values.span_prices.fill_prices.Given as goal

-- the sums are the prices by the spans so far
abbrev pub invariant-loop-span : goal.invariant-loop-span
invariant-loop-span l = ArePricesBySpans l.network (take l.span-index l.spans) l.shipment l.sums
