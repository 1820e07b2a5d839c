use Rattle.fp_records_fields.proofs.DistinctParts.{fresh-shipment}
use Rattle.fp_records_fields.proofs.indexes.shipment_names.Goals as goal

pub add-requires : goal.add-requires
add-requires c =
    rw (c.loop-shipment.invariant, c.bytes.ensures.same, c.shipment-item.is)
    (fresh-shipment c.args.shipments.now c.loop-shipment.shipment-index c.shipment-item.result c.requires c.loop-shipment-test.true)
