use Rattle.std.proofs.Common.{[], ◌∷◌, ◌∙◌, ap}
use Rattle.std.specs.Prelude.{codes, decimal}
use Rattle.fp_records.specs.Text.{Lines}
use Rattle.fp_records.proofs.LineTexts.{built-line}
use Rattle.fp_app.proofs.notes.write_note.Goals as goal

pub returns : goal.returns
returns c = record {
  text = ap (λ (l : Lines). l.text)
      (rw (c.in_ok-number-4.ensures.ok, c.in_ok-number-3.ensures.ok, c.in_ok-number-2.ensures.ok, c.in_ok-number.ensures.ok, c.in_ok-word.ensures.ok, c.from-2.ensures, c.from.ensures) at c.in_ok-end.ensures.ok)
      ∙ built-line c.args.line.now (codes "note") (decimal c.args.seen.rounds ∷ decimal c.args.seen.branches ∷ decimal c.args.seen.cost ∷ decimal c.args.seen.bound ∷ []) c.requires.begun;
}
