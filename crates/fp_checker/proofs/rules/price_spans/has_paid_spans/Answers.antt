use Rattle.std.proofs.Common.{◌∙◌, ap}
use Rattle.fp_certificate_lines.specs.Statements.{Statement}
use Rattle.fp_checker.proofs.Spanned.{told-paid}
use Rattle.fp_checker.proofs.rules.price_spans.has_paid_spans.Goals as goal

pub returns : goal.returns
returns c =
    told-paid c.args.instance.now c.args.windows.now c.args.certificate.now c.args.points.now c.all_paid.result c.requires.belongs c.requires.range c.requires.points c.deref.result.now c.deref-2.result.now c.deref-3.result.now
    (c.deref.ensures.value ∙ ap (λ (s : Statement). s.spans) c.certificate.view_is) (c.deref-2.ensures.value ∙ ap (λ (s : Statement). s.gifts) c.certificate.view_is)
    (c.deref-3.ensures.value ∙ ap (λ (s : Statement). s.moments) c.certificate.view_is) c.all_paid.ensures
