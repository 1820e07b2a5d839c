use Rattle.std.proofs.Common.{◌≡◌, take}
use Rattle.fp_records_fields.specs.Indexes.{shipment_names}
use Rattle.fp_records_fields.proofs.indexes.shipment_names.Given as goal

abbrev pub invariant-loop-shipment : goal.invariant-loop-shipment
invariant-loop-shipment l = l.names ≡ shipment_names (take l.shipment-index l.shipments)
