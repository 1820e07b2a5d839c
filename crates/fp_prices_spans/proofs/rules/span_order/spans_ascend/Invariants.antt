use Rattle.std.specs.List.{AllAdjacentBelow}
use Rattle.fp_prices_spans.specs.SpanLists.{StandsBefore}
use Rattle.fp_prices_spans.proofs.rules.span_order.spans_ascend.Given as goal

-- the spans before this place are in order
abbrev pub invariant-loop-place : goal.invariant-loop-place
invariant-loop-place l = AllAdjacentBelow StandsBefore l.spans l.place
