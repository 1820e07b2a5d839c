use Rattle.fp_base_lists.specs.Vectors.{lists_of}
use Rattle.fp_model.proofs.FirstFaults.{AreShipmentsFaultless}
use Rattle.fp_model.proofs.faults.first_fault.Given as goal

-- the shipments so far have no fault
abbrev pub invariant-loop-shipment : goal.invariant-loop-shipment
invariant-loop-shipment l = AreShipmentsFaultless l.instance (lists_of l.routes) l.shipment
