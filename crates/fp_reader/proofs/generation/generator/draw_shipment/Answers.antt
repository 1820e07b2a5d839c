use Rattle.std.proofs.Common.{◌∙◌}
use Rattle.fp_reader.proofs.DrawnShipments.{drawn_shipment-from_draws}
use Rattle.fp_reader.proofs.generation.generator.draw_shipment.Goals as goal

pub returns-clause-shipment : goal.returns-clause-shipment
returns-clause-shipment c =
    drawn_shipment-from_draws c.args.terminals c.args.draws.now c.args.number c.in_ok-shipment_name.field-0
    c.draw-from.result c.draw.result c.from-size.result c.draw-release.result c.draw-3.result
    c.draw-from.new.self c.draw.new.self c.draw-2.new.self c.draw-release.new.self
    c.in_ok-shipment_name.ensures c.draw-from.ensures.drawn c.draw-from.ensures.next c.draw.ensures.drawn c.draw.ensures.next
    (c.from-size.ensures ∙ c.draw-2.ensures.drawn) c.draw-2.ensures.next c.draw-release.ensures.drawn c.draw-release.ensures.next c.draw-3.ensures.drawn
