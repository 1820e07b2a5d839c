use Rattle.std.proofs.Common.{[], ◌∷◌}
use Rattle.std.specs.Prelude.{codes}
use Rattle.fp_fleet.proofs.day_lines.write_many.Goals as goal
use Rattle.fp_records.proofs.LineTexts.{ended-line}

pub returns-clause-text : goal.returns-clause-text
returns-clause-text c =
    ended-line c.end.result c.args.line.now c.end.new.self (codes "trucks") (codes "many" ∷ []) c.requires.begun
    (rw (c.in_ok-word-2.ensures.ok, c.in_ok-word.ensures.ok) at c.end.ensures.ok)
