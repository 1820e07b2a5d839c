use Rattle.std.proofs.Common.{◌≡◌, ◌∙◌, ℕ, ◌∷◌, refl}
use Rattle.std.specs.Prelude.{None, Option, Some, decimal}
use Rattle.fp_records.specs.Text.{Lines}
use Rattle.fp_certificate_lines.specs.Rows.{kind_text, last_number_fields, mode_text, with_last_number}
use Rattle.fp_certificate_lines.proofs.lines.prices.write_priced.Goals as goal
use Rattle.fp_records.proofs.LineTexts.{ended-line, with_fields}

-- the number is the last field, or there is none
last-written : (line : Lines) (last : Option ℕ) → with_last_number line last ≡ with_fields line (last_number_fields last)
last-written line None = refl
last-written line (Some n) = refl

pub returns-clause-text : goal.returns-clause-text
returns-clause-text c =
    let price = c.args.price in
    ended-line c.end.result c.args.line.now c.end.new.self c.args.word.now (kind_text price.kind ∷ decimal price.round ∷ mode_text price.forced ∷ last_number_fields c.args.last) c.requires.begun
    (rw (c.in_ok-write_last_number.ensures ∙ last-written _ c.args.last, c.in_ok-write_mode.ensures, c.in_ok-number.ensures.ok, c.in_ok-write_kind.ensures, c.in_ok-word.ensures.ok, c.from.ensures) at c.end.ensures.ok)
