use Rattle.std.proofs.Common.{sym, ◌∙◌}
use Rattle.std.proofs.lemmas.Bool.{false≢true}
use Rattle.fp_prices_spans.proofs.PaidSpans.{failed-refutes}
use Rattle.fp_prices_spans.proofs.rules.paid_spans.are_paid.Goals as goal

pub returns-then-is_some : goal.returns-then-is_some
returns-then-is_some c = (
  λ h. absurd (false≢true h),
  λ are. absurd (failed-refutes c.args.instance.now c.args.spans.now c.in_ok-check_spans.field-0 (sym c.is_some.ensures ∙ c.if-is_some.true) c.in_ok-check_spans.ensures are.list),
)
