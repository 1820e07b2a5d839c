use Rattle.std.proofs.Common.{◌≡◌, drop}
use Rattle.fp_model.specs.Numbered.{shipment_at}
use Rattle.fp_longestarcs.specs.Stops.{legs_of}
use Rattle.fp_duals_walks.proofs.RowWalks.{at_origin, goes_on}
use Rattle.fp_duals_walks.proofs.row_walks.is_row_walk.Given as goal

-- the whole walk goes on exactly where what is left of it does
abbrev pub invariant-loop-class : goal.invariant-loop-class
invariant-loop-class l =
    goes_on l.instance l.network l.row (shipment_at l.instance l.shipment).to (legs_of l.walk) (at_origin (shipment_at l.instance l.shipment))
    ≡ goes_on l.instance l.network l.row (shipment_at l.instance l.shipment).to (legs_of (drop l.class-index l.walk)) l.here
