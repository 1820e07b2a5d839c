use Rattle.std.proofs.Common.{[], ◌∷◌, ◌∙◌, ap}
use Rattle.std.specs.Prelude.{codes, decimal}
use Rattle.fp_records.specs.Text.{Lines}
use Rattle.fp_records.proofs.LineTexts.{built-line}
use Rattle.fp_yard_sheets.specs.Rows.{head_name, tail_name}
use Rattle.fp_yard_sheets.proofs.outgoing.write_departure.Goals as goal

pub returns-clause-text : goal.returns-clause-text
returns-clause-text c =
    let p = c.args.instance.now in
    let t = c.args.truck.now in
    ap (λ (l : Lines). l.text)
    (rw (c.in_ok-number-2.ensures.ok, c.in_ok-number.ensures.ok, c.in_ok-write_head.ensures, c.in_ok-write_tail.ensures, c.in_ok-word.ensures.ok, c.from.ensures) at c.in_ok-end.ensures.ok)
    ∙ built-line c.args.line.now (codes "out") (tail_name p t ∷ head_name p t ∷ decimal t.depart ∷ decimal t.trucks ∷ []) c.requires.begun
