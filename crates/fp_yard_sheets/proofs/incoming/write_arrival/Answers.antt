use Rattle.std.proofs.Common.{[], ◌∷◌, ◌∙◌, ap}
use Rattle.std.specs.Prelude.{codes, decimal}
use Rattle.fp_records.specs.Text.{Lines}
use Rattle.fp_records.proofs.LineTexts.{built-line}
use Rattle.fp_yard.specs.Schedules.{line_at}
use Rattle.fp_yard_sheets.specs.Rows.{head_name, tail_name}
use Rattle.fp_yard_sheets.proofs.incoming.write_arrival.Goals as goal

pub returns-clause-text : goal.returns-clause-text
returns-clause-text c =
    let p = c.args.instance.now in
    let t = line_at c.args.trucks.now c.args.arrival.line in
    ap (λ (l : Lines). l.text)
    (rw (c.in_ok-number.ensures.ok, c.in_ok-write_tail.ensures, c.in_ok-write_head.ensures, c.in_ok-word.ensures.ok, c.from.ensures) at c.in_ok-end.ensures.ok)
    ∙ built-line c.args.line.now (codes "in") (head_name p t ∷ tail_name p t ∷ decimal c.args.arrival.at ∷ []) c.requires.begun
