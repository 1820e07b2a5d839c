use Rattle.std.proofs.Common.{◌≡◌, drop}
use Rattle.fp_model.specs.Numbered.{shipment_at}
use Rattle.fp_longestarcs.specs.Stops.{legs_of}
use Rattle.fp_prices.proofs.TimedWalks.{at_origin, goes_on}
use Rattle.fp_prices.proofs.graphs.timed_walks.is_timed_walk.Given as goal

-- the whole walk goes on exactly where what is left of it does
abbrev pub invariant-loop-class : goal.invariant-loop-class
invariant-loop-class l =
    goes_on l.instance l.network l.costs (shipment_at l.instance l.shipment).to (legs_of l.walk) (at_origin (shipment_at l.instance l.shipment) l.cost)
    ≡ goes_on l.instance l.network l.costs (shipment_at l.instance l.shipment).to (legs_of (drop l.class-index l.walk)) l.progress
