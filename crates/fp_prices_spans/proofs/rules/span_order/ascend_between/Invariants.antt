use Rattle.std.proofs.Common.{drop}
use Rattle.std.specs.Prelude.{◌↔◌}
use Rattle.fp_prices_spans.specs.SpanLists.{AscendBetween}
use Rattle.fp_prices_spans.proofs.rules.span_order.ascend_between.Given as goal

-- all moments ascend exactly where those ascend that are left, after the last that was passed
abbrev pub invariant-loop-moment : goal.invariant-loop-moment
invariant-loop-moment l = AscendBetween l.from l.moments l.until ↔ AscendBetween l.last (drop l.moment-index l.moments) l.until
