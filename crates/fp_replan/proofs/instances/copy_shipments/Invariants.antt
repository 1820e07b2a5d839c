use Rattle.std.proofs.Common.{◌≡◌, take}
use Rattle.fp_replan.proofs.instances.copy_shipments.Given as goal

abbrev pub invariant-loop-shipment : goal.invariant-loop-shipment
invariant-loop-shipment l = l.copies.items ≡ take l.shipment-index l.shipments
