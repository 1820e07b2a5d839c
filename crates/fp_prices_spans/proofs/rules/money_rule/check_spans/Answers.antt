use Rattle.std.proofs.lemmas.List.Elements.{recursion_from_All}
use Rattle.fp_prices_spans.specs.SpanRules.{KeepsMoneyRule}
use Rattle.fp_prices_spans.proofs.rules.money_rule.check_spans.Goals as goal

pub returns-in-None : goal.returns-in-None
returns-in-None c = record {
  ordered = c.are_in_order.ensures.0 c.if-not-are_in_order.false;
  light = c.are_light.ensures.0 c.if-not-are_light.false;
  money = recursion_from_All (KeepsMoneyRule c.args.instance.now c.args.spans.now) c.args.spans.now (rw c.in-None.is at c.in_ok-number.ensures);
}
