use Rattle.std.proofs.Common.{◌≡◌, ◌*◌, ◌≤◌, take}
use Rattle.std.specs.Prelude.{sum_by}
use Rattle.std.specs.Int.{div_ceil}
use Rattle.fp_model.specs.declared.limits.TheConstants.{GREATEST_AMOUNT}
use Rattle.fp_model.specs.declared.parts.Shipment.{Shipment}
use Rattle.fp_session_branching.proofs.truck_numbers.trucks_alone.Given as goal

-- the trucks of the shipments so far
abbrev pub invariant-loop-shipment : goal.invariant-loop-shipment
invariant-loop-shipment l = record {
  summed : l.total ≡ sum_by (λ (s : Shipment). div_ceil s.size l.capacity) (take l.shipment-index l.shipment-items);
  small : l.total ≤ l.shipment-index * GREATEST_AMOUNT;
}
