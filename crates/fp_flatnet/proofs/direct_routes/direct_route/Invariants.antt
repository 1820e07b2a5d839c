use Rattle.std.specs.Prelude.{unwrap_or}
use Rattle.fp_flatnet.specs.Distances.{time_at}
use Rattle.fp_flatnet.proofs.PartialRoutes.{IsUnderway}
use Rattle.fp_flatnet.proofs.direct_routes.direct_route.Given as goal

abbrev pub invariant-loop-here : goal.invariant-loop-here
invariant-loop-here l = IsUnderway l.instance l.shipment l.here l.ready l.legs.items

abbrev pub decreases-loop-here : goal.decreases-loop-here
decreases-loop-here l = unwrap_or (time_at l.times l.here) 0
