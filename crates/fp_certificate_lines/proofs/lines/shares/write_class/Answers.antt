use Rattle.std.proofs.Common.{◌≡◌, [], ◌∷◌, ◌++◌, subst}
use Rattle.std.specs.Prelude.{codes, decimal, OnOk}
use Rattle.fp_prices.specs.Shares.{ClassShare}
use Rattle.fp_records.specs.Text.{line_of}
use Rattle.fp_certificate_lines.specs.Rows.{head_name, share_fields, tail_name}
use Rattle.fp_certificate_lines.proofs.lines.shares.write_class.Goals as goal
use Rattle.fp_records.proofs.LineTexts.{ended-line}

pub returns-clause-text : goal.returns-clause-text
returns-clause-text c =
    let p = c.args.instance.now in
    let s = c.share.inside in
    subst (λ (v : ClassShare). OnOk c.end.result (c.end.new.self.text ≡ c.args.line.now.text ++ line_of (share_fields p v))) c.share.view_is
    (ended-line c.end.result c.args.line.now c.end.new.self (codes "share") (tail_name p s.arc ∷ head_name p s.arc ∷ decimal s.point ∷ decimal s.v ∷ []) c.requires.begun
    (rw (c.in_ok-number-2.ensures.ok, c.in_ok-number.ensures.ok, c.in_ok-write_ends.ensures, c.in_ok-word.ensures.ok, c.from.ensures) at c.end.ensures.ok))
