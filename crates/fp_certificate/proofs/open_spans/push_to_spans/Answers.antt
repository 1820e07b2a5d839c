use Rattle.std.proofs.Common.{◌∙◌, ◌-◌, List, length, ap}
use Rattle.std.proofs.Math.ListN.{set}
use Rattle.fp_prices.specs.declared.tables.Weight.{Weight}
use Rattle.fp_prices_spans.specs.Spans.{ClassSpan}
use Rattle.fp_certificate.specs.Tables.{and_span_weight}
use Rattle.fp_certificate.proofs.LastElements.{with_last-set}
use Rattle.fp_certificate.proofs.open_spans.push_to_spans.Goals as goal

pub returns : goal.returns
returns c =
    let spans = c.args.spans.now in
    let inside = c.span.inside in
    let old : ClassSpan = record {
      arc = inside.arc;
      point = inside.point;
      until = inside.until;
      money = inside.money;
      charge = inside.charge;
      weights = inside.weights.items;
      groups = inside.groups.items;
    } in
    ap (λ (x : ClassSpan). set spans (length spans - 1) x)
    (ap (λ (ws : List Weight). record old { weights = ws }) c.in_ok-push.ensures.items ∙ ap (λ (x : ClassSpan). and_span_weight c.args.weight x) c.span.view_is)
    ∙ with_last-set (and_span_weight c.args.weight) spans c.index-spans-last.result c.requires
