use Rattle.fp_prices_spans.proofs.SpanBounds.{charged_spans-bound}
use Rattle.fp_prices_spans.proofs.laws.charged_spans_bound_plans.Goals as goal

pub returns : goal.returns
returns c = charged_spans-bound
