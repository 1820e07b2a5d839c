use Rattle.std.proofs.Common.{◌≡◌, [], ◌∷◌, ◌++◌, subst}
use Rattle.std.specs.Prelude.{codes, decimal, OnOk}
use Rattle.fp_prices_spans.specs.Spans.{ClassSpan}
use Rattle.fp_records.specs.Text.{line_of}
use Rattle.fp_certificate_lines.specs.Rows.{head_name, span_fields, tail_name}
use Rattle.fp_certificate_lines.proofs.lines.spans.write_run.Goals as goal
use Rattle.fp_records.proofs.LineTexts.{ended-line}

pub returns-clause-text : goal.returns-clause-text
returns-clause-text c =
    let p = c.args.instance.now in
    let s = c.span.inside in
    subst (λ (v : ClassSpan). OnOk c.end.result (c.end.new.self.text ≡ c.args.line.now.text ++ line_of (span_fields p v))) c.span.view_is
    (ended-line c.end.result c.args.line.now c.end.new.self (codes "span") (tail_name p s.arc ∷ head_name p s.arc ∷ decimal s.point ∷ decimal s.until ∷ decimal s.money ∷ decimal s.charge ∷ []) c.requires.begun
    (rw (c.in_ok-number-4.ensures.ok, c.in_ok-number-3.ensures.ok, c.in_ok-number-2.ensures.ok, c.in_ok-number.ensures.ok, c.in_ok-write_ends.ensures, c.in_ok-word.ensures.ok, c.from.ensures, c.from-2.ensures) at c.end.ensures.ok))
