use Rattle.fp_prices_spans.proofs.OneSpanValue.{span_leaves-have-one-value}
use Rattle.fp_prices_spans.proofs.laws.span_leaves_have_one_value.Goals as goal

pub returns : goal.returns
returns c = span_leaves-have-one-value
