use Rattle.std.proofs.Common.{[], ◌∷◌}
use Rattle.std.specs.Prelude.{codes, decimal}
use Rattle.fp_certificate_lines.specs.Rows.{head_name, shipment_name, tail_name}
use Rattle.fp_certificate_lines.proofs.lines.legs.write_leg.Goals as goal
use Rattle.fp_records.proofs.LineTexts.{ended-line}

pub returns-clause-text : goal.returns-clause-text
returns-clause-text c =
    let p = c.args.instance.now in
    let l = c.args.leg.now in
    ended-line c.end.result c.args.line.now c.end.new.self (codes "leg") (shipment_name p l.shipment ∷ tail_name p l.arc ∷ head_name p l.arc ∷ decimal l.depart ∷ decimal l.arrive ∷ []) c.requires.begun
    (rw (c.in_ok-number-2.ensures.ok, c.in_ok-number.ensures.ok, c.in_ok-write_ends.ensures, c.in_ok-write_shipment.ensures, c.in_ok-word.ensures.ok, c.from-2.ensures, c.from.ensures) at c.end.ensures.ok)
