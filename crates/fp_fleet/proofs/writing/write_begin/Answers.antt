use Rattle.std.proofs.Common.{[], ◌∷◌}
use Rattle.std.specs.Prelude.{codes, decimal}
use Rattle.fp_fleet.specs.Rows.{depart_text, from_name, to_name}
use Rattle.fp_fleet.proofs.writing.write_begin.Goals as goal
use Rattle.fp_records.proofs.LineTexts.{ended-line}

pub returns-clause-text : goal.returns-clause-text
returns-clause-text c =
    let p = c.args.instance.now in
    let lines = c.args.lines.now in
    let b = c.args.begin.now in
    ended-line c.end.result c.args.line.now c.end.new.self (codes "start") (from_name p lines b.line ∷ to_name p lines b.line ∷ depart_text lines b.line ∷ decimal b.count ∷ []) c.requires.begun
    (rw (c.in_ok-number-2.ensures.ok, c.in_ok-number.ensures.ok, c.in_ok-write_to.ensures, c.in_ok-write_from.ensures, c.in_ok-word.ensures.ok, c.from.ensures) at c.end.ensures.ok)
