use Rattle.std.proofs.Common.{[], ◌∷◌, ◌∙◌, ap}
use Rattle.std.specs.Prelude.{codes, decimal}
use Rattle.fp_records.specs.Text.{Lines}
use Rattle.fp_records.proofs.LineTexts.{built-line}
use Rattle.fp_app.proofs.texts.write_trial.Goals as goal

pub returns-clause-text : goal.returns-clause-text
returns-clause-text c =
    ap (λ (l : Lines). l.text) (rw (c.in_ok-number-4.ensures.ok, c.in_ok-number-3.ensures.ok, c.in_ok-number-2.ensures.ok, c.in_ok-number.ensures.ok, c.in_ok-word.ensures.ok, c.from.ensures) at c.in_ok-end.ensures.ok)
    ∙ built-line c.args.line.now (codes "trial") (decimal c.args.seed ∷ decimal c.args.terminals ∷ decimal c.args.arcs ∷ decimal c.args.shipments ∷ []) c.requires.begun
