use Rattle.std.proofs.Common.{[], ◌∷◌}
use Rattle.std.specs.Prelude.{codes}
use Rattle.fp_certificate_lines.specs.Rows.{head_name, shipment_name, tail_name}
use Rattle.fp_certificate_lines.proofs.lines.splits.write_by_way.Goals as goal
use Rattle.fp_records.proofs.LineTexts.{ended-line}

pub returns-clause-text : goal.returns-clause-text
returns-clause-text c =
    let p = c.args.instance.now in
    ended-line c.end.result c.args.line.now c.end.new.self (codes "split") (codes "way" ∷ shipment_name p c.args.shipment ∷ tail_name p c.args.arc ∷ head_name p c.args.arc ∷ []) c.requires.begun
    (rw (c.in_ok-write_ends.ensures, c.in_ok-write_shipment.ensures, c.in_ok-word-2.ensures.ok, c.in_ok-word.ensures.ok) at c.end.ensures.ok)
