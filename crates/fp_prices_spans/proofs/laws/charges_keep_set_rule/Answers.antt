use Rattle.fp_prices_spans.proofs.SoundSpans.{charges-keep_set_rule}
use Rattle.fp_prices_spans.proofs.laws.charges_keep_set_rule.Goals as goal

pub returns : goal.returns
returns c = charges-keep_set_rule
