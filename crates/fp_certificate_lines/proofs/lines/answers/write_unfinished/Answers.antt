use Rattle.std.proofs.Common.{[], ◌∷◌}
use Rattle.std.specs.Prelude.{codes, decimal}
use Rattle.fp_certificate_lines.specs.Rows.{spent_text}
use Rattle.fp_certificate_lines.proofs.lines.answers.write_unfinished.Goals as goal
use Rattle.fp_records.proofs.LineTexts.{ended-line}

pub returns-clause-text : goal.returns-clause-text
returns-clause-text c =
    ended-line c.end.result c.args.line.now c.end.new.self (codes "answer") (codes "unfinished" ∷ decimal c.args.cost ∷ decimal c.args.bound ∷ spent_text c.args.spent ∷ []) c.requires.begun
    (rw (c.in_ok-write_spent.ensures, c.in_ok-number-2.ensures.ok, c.in_ok-number.ensures.ok, c.in_ok-word-2.ensures.ok, c.in_ok-word.ensures.ok) at c.end.ensures.ok)
