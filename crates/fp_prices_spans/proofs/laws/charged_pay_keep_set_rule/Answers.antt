use Rattle.fp_prices_spans.proofs.SoundSpans.{charged_pay-keep_set_rule}
use Rattle.fp_prices_spans.proofs.laws.charged_pay_keep_set_rule.Goals as goal

pub returns : goal.returns
returns c = charged_pay-keep_set_rule
