use Rattle.std.proofs.Common.{◌∙◌, ◌-◌, List, [], ◌∷◌, ◌++◌, length, ap}
use Rattle.std.proofs.Math.ListN.{set}
use Rattle.fp_prices_spans.specs.Spans.{ClassSpan}
use Rattle.fp_certificate.specs.Tables.{and_span}
use Rattle.fp_certificate.proofs.LastElements.{with_last-set}
use Rattle.fp_certificate.proofs.open_spans.push_span.Goals as goal

pub returns : goal.returns
returns c =
    let spans = c.args.spans.now in
    ap (λ (t : List ClassSpan). set spans (length spans - 1) t) (c.in_ok-push.ensures.items ∙ ap (λ (t : List ClassSpan). t ++ (c.args.span ∷ [])) c.beside.view_is)
    ∙ with_last-set (and_span c.args.span) spans c.index-spans-last.result c.requires
