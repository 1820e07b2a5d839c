use Rattle.std.proofs.Common.{[], ◌∷◌}
use Rattle.std.specs.Prelude.{codes, decimal}
use Rattle.fp_certificate_lines.specs.Rows.{head_name, tail_name}
use Rattle.fp_certificate_lines.proofs.lines.trucks.write_truck.Goals as goal
use Rattle.fp_records.proofs.LineTexts.{ended-line}

pub returns-clause-text : goal.returns-clause-text
returns-clause-text c =
    let p = c.args.instance.now in
    let t = c.args.truck.now in
    ended-line c.end.result c.args.line.now c.end.new.self (codes "truck") (tail_name p t.arc ∷ head_name p t.arc ∷ decimal t.depart ∷ decimal t.trucks ∷ decimal t.load ∷ []) c.requires.begun
    (rw (c.in_ok-number-3.ensures.ok, c.in_ok-number-2.ensures.ok, c.in_ok-number.ensures.ok, c.in_ok-write_ends.ensures, c.in_ok-word.ensures.ok, c.from.ensures) at c.end.ensures.ok)
