use Rattle.std.proofs.Common.{[], ◌∷◌, ◌∙◌, ap}
use Rattle.std.specs.Prelude.{decimal}
use Rattle.fp_records.specs.Text.{Lines}
use Rattle.fp_records.proofs.LineTexts.{built-line}
use Rattle.fp_yard.specs.Schedules.{line_at}
use Rattle.fp_yard_sheets.specs.Rows.{event_word, head_name, tail_name}
use Rattle.fp_yard_sheets.proofs.events.write_event.Goals as goal

pub returns-clause-text : goal.returns-clause-text
returns-clause-text c =
    let p = c.args.instance.now in
    let t = line_at c.args.trucks.now c.args.event.line in
    ap (λ (l : Lines). l.text)
    (rw (c.in_ok-number.ensures.ok, c.in_ok-write_head.ensures, c.in_ok-write_tail.ensures, c.in_ok-word.ensures.ok, c.word_of.ensures, c.from.ensures) at c.in_ok-end.ensures.ok)
    ∙ built-line c.args.line.now (event_word c.args.event.kind) (tail_name p t ∷ head_name p t ∷ decimal t.depart ∷ []) c.requires.begun
