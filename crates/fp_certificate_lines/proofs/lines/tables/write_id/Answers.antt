use Rattle.std.proofs.Common.{◌≡◌, ◌∙◌, ◌∷◌, true, false, Bool, refl}
use Rattle.std.specs.Prelude.{codes, decimal}
use Rattle.fp_records.specs.Text.{Lines}
use Rattle.fp_certificate_lines.specs.Rows.{moments_fields, with_moments}
use Rattle.fp_certificate_lines.proofs.lines.tables.write_id.Goals as goal
use Rattle.fp_records.proofs.LineTexts.{ended-line, with_fields}

-- that the table is by moments is the last field, or there is none
moments-written : (line : Lines) (by_moments : Bool) → with_moments line by_moments ≡ with_fields line (moments_fields by_moments)
moments-written line true = refl
moments-written line false = refl

pub returns-clause-text : goal.returns-clause-text
returns-clause-text c =
    ended-line c.end.result c.args.line.now c.end.new.self (codes "table") (decimal c.args.id ∷ moments_fields c.args.by_moments) c.requires.begun
    (rw (c.in_ok-write_moments.ensures ∙ moments-written _ c.args.by_moments, c.in_ok-number.ensures.ok, c.in_ok-word.ensures.ok) at c.end.ensures.ok)
