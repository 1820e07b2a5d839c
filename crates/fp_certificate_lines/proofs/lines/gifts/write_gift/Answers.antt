use Rattle.std.proofs.Common.{[], ◌∷◌}
use Rattle.std.specs.Prelude.{codes, decimal}
use Rattle.fp_certificate_lines.specs.Rows.{head_name, side_text, tail_name}
use Rattle.fp_certificate_lines.proofs.lines.gifts.write_gift.Goals as goal
use Rattle.fp_records.proofs.LineTexts.{ended-line}

pub returns-clause-text : goal.returns-clause-text
returns-clause-text c =
    let p = c.args.instance.now in
    let g = c.args.gift.now in
    ended-line c.end.result c.args.line.now c.end.new.self (codes "gift") (tail_name p g.arc ∷ head_name p g.arc ∷ decimal g.point ∷ decimal g.until ∷ side_text g.least ∷ decimal g.amount ∷ []) c.requires.begun
    (rw (c.in_ok-number-3.ensures.ok, c.in_ok-write_side.ensures, c.in_ok-number-2.ensures.ok, c.in_ok-number.ensures.ok, c.in_ok-write_ends.ensures, c.in_ok-word.ensures.ok, c.from-2.ensures, c.from.ensures) at c.end.ensures.ok)
