use Rattle.std.proofs.Common.{[], ◌∷◌}
use Rattle.std.specs.Prelude.{codes, decimal}
use Rattle.fp_certificate_lines.specs.Rows.{head_name, tail_name}
use Rattle.fp_certificate_lines.proofs.lines.splits.write_by_trucks.Goals as goal
use Rattle.fp_records.proofs.LineTexts.{ended-line}

pub returns-clause-text : goal.returns-clause-text
returns-clause-text c =
    let p = c.args.instance.now in
    let a = c.args in
    ended-line c.end.result c.args.line.now c.end.new.self (codes "split") (codes "trucks" ∷ tail_name p a.arc ∷ head_name p a.arc ∷ decimal a.point ∷ decimal a.until ∷ decimal a.most ∷ []) c.requires.begun
    (rw (c.in_ok-number-3.ensures.ok, c.in_ok-number-2.ensures.ok, c.in_ok-number.ensures.ok, c.in_ok-write_ends.ensures, c.in_ok-word-2.ensures.ok, c.in_ok-word.ensures.ok, c.from-3.ensures, c.from-2.ensures, c.from.ensures) at c.end.ensures.ok)
