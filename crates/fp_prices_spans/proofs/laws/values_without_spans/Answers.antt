use Rattle.fp_prices_spans.proofs.SpanlessValues.{spanless-values}
use Rattle.fp_prices_spans.proofs.laws.values_without_spans.Goals as goal

pub returns : goal.returns
returns c = spanless-values
