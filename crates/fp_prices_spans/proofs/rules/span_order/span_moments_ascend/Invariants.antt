use Rattle.std.proofs.Common.{take}
use Rattle.std.specs.Prelude.{All}
use Rattle.fp_prices_spans.specs.SpanLists.{MomentsAscend}
use Rattle.fp_prices_spans.proofs.rules.span_order.span_moments_ascend.Given as goal

-- the moments of the spans that were passed ascend
abbrev pub invariant-loop-span : goal.invariant-loop-span
invariant-loop-span l = All MomentsAscend (take l.span-index l.spans)
