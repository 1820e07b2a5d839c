use Rattle.std.proofs.Common.{ap, sym, subst}
use Rattle.fp_model.specs.Problem.{Problem}
use Rattle.fp_allowed.specs.Settings.{Setting}
use Rattle.fp_prices_spans.specs.SpanLists.{AreSpans}
use Rattle.fp_tests_bound.proofs.tests.spans.leaf_bound.Goals as goal

pub span_bound-requires-clause-spans : goal.span_bound-requires-clause-spans
span_bound-requires-clause-spans c =
    let listed = rw c.in-None.is at c.in_ok-check_spans.ensures in
    subst (λ (p : Problem). AreSpans p c.args.spans.now) (sym (ap (λ (s : Setting). s.problem) c.in_ok-leaf-in-None.ensures.setting))
    (record { ordered = listed.ordered; exist = c.requires.exist; light = listed.light })
