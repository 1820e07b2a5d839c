use Rattle.std.proofs.Common.{◌≡◌, ◌≤◌, take}
use Rattle.fp_model.specs.declared.weights.TheConstants.{MOST_ALONE}
use Rattle.fp_model.specs.Problem.{alone_total}
use Rattle.fp_model.proofs.weights.total_alone.Given as goal

abbrev pub invariant-loop-shipment : goal.invariant-loop-shipment
invariant-loop-shipment l = record {
  sum : l.total ≡ alone_total l.arcs (take l.shipment-index l.shipments);
  most : l.total ≤ MOST_ALONE;
}
