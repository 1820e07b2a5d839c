use Rattle.fp_reader.proofs.DrawnShipments.{drawn_shipments-more}
use Rattle.fp_reader.proofs.generation.generator.draw_shipments.Goals as goal

pub loop-number-preserved : goal.loop-number-preserved
loop-number-preserved c =
    let more = drawn_shipments-more c.args.terminals c.args.draws.now c.loop-number.number c.loop-number.draws c.draw_shipment.new.draws
    c.loop-number.shipments.items c.in_ok-draw_shipment.field-0 c.push.new.self.items
    c.loop-number.invariant.drawn c.loop-number.invariant.next
    c.in_ok-draw_shipment.ensures.shipment c.in_ok-draw_shipment.ensures.next c.in_ok-push.ensures.items in
    record { drawn = more.0; next = more.1 }
