use Rattle.std.proofs.Common.{◌≡◌, ◌+◌, ◌-◌, take}
use Rattle.fp_prices_spans.specs.declared.spans.TheConstants.{MOST_SPAN_WEIGHT}
use Rattle.fp_prices_spans.specs.SpanLists.{weight_total}
use Rattle.fp_prices_spans.proofs.rules.weight_rule.are_light.Given as goal

-- what is left and the weights of the spans so far are together one less than the limit
abbrev pub invariant-loop-span : goal.invariant-loop-span
invariant-loop-span l = l.left + weight_total (take l.span-index l.spans) ≡ MOST_SPAN_WEIGHT - 1
