use Rattle.std.proofs.Common.{[], ◌∷◌, ◌∙◌, ap}
use Rattle.std.specs.Prelude.{codes, decimal}
use Rattle.fp_records.specs.Text.{Lines}
use Rattle.fp_records.proofs.LineTexts.{built-line}
use Rattle.fp_app.proofs.texts.write_added.Goals as goal

pub returns-clause-text : goal.returns-clause-text
returns-clause-text c =
    ap (λ (l : Lines). l.text) (rw (c.in_ok-word-3.ensures.ok, c.in_ok-number-3.ensures.ok, c.in_ok-number-2.ensures.ok, c.in_ok-number.ensures.ok, c.in_ok-word-2.ensures.ok, c.in_ok-word.ensures.ok, c.bytes.ensures.same) at c.in_ok-end.ensures.ok)
    ∙ built-line c.args.line.now (codes "quote") (c.args.name.now ∷ decimal c.args.extra.low ∷ decimal c.args.extra.high ∷ decimal c.args.added ∷ c.args.ends.now ∷ []) c.requires.begun
