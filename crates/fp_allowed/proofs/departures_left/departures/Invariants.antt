use Rattle.std.proofs.Common.{◌≡◌, length}
use Rattle.fp_flatnet.specs.Tables.{windows_in}
use Rattle.fp_allowed.specs.declared.departures_left.TheConstants.{MOMENTS}
use Rattle.fp_allowed.specs.Departures.{departures_below}
use Rattle.fp_allowed.proofs.departures_left.departures.Given as goal

abbrev pub invariant-loop-arc : goal.invariant-loop-arc
invariant-loop-arc l =
    (l.total ≡ departures_below l.instance (windows_in l.windows) l.fn.sides l.shipment l.terminal l.arc) × (length l.moments ≡ MOMENTS)
