use Rattle.fp_model.proofs.Faultless.{AreFaultlessBelow}
use Rattle.fp_model.proofs.faults.route_fault.Given as goal

-- the legs so far have no fault
abbrev pub invariant-loop-place : goal.invariant-loop-place
invariant-loop-place l = AreFaultlessBelow l.instance l.shipment l.route l.place
