use Rattle.std.proofs.Common.{[], ◌∷◌}
use Rattle.std.specs.Prelude.{codes, decimal}
use Rattle.fp_certificate_lines.specs.Rows.{shipment_name, terminal_name}
use Rattle.fp_certificate_lines.proofs.lines.splits.write_by_time.Goals as goal
use Rattle.fp_records.proofs.LineTexts.{ended-line}

pub returns-clause-text : goal.returns-clause-text
returns-clause-text c =
    let p = c.args.instance.now in
    ended-line c.end.result c.args.line.now c.end.new.self (codes "split") (codes "time" ∷ shipment_name p c.args.shipment ∷ terminal_name p c.args.terminal ∷ decimal c.args.at ∷ []) c.requires.begun
    (rw (c.in_ok-number.ensures.ok, c.in_ok-write_terminal.ensures, c.in_ok-write_shipment.ensures, c.in_ok-word-2.ensures.ok, c.in_ok-word.ensures.ok, c.from.ensures) at c.end.ensures.ok)
