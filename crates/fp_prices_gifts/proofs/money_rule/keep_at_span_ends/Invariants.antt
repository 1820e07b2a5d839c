use Rattle.std.proofs.Common.{take}
use Rattle.std.specs.Prelude.{All}
use Rattle.fp_prices_spans.specs.Spans.{ClassSpan}
use Rattle.fp_prices_gifts.specs.Gifts.{KeepsAtEnds}
use Rattle.fp_prices_gifts.proofs.money_rule.keep_at_span_ends.Given as goal

-- it holds at the ends of the spans that were passed
abbrev pub invariant-loop-span : goal.invariant-loop-span
invariant-loop-span l = All (λ (s : ClassSpan). KeepsAtEnds l.instance l.spans l.gifts s.arc s.point s.until) (take l.span-index l.spans)
