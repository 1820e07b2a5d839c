use Rattle.fp_prices_spans.proofs.SoundSpans.{sound_spans-keep_rules}
use Rattle.fp_prices_spans.proofs.laws.sound_spans_keep_rules.Goals as goal

pub returns : goal.returns
returns c = sound_spans-keep_rules
