use Rattle.fp_prices_spans.proofs.SpanBounds.{span_leaf-bounds}
use Rattle.fp_prices_spans.proofs.laws.span_values_bound_plans.Goals as goal

pub returns : goal.returns
returns c = span_leaf-bounds
