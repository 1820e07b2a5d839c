use Rattle.std.proofs.Common.{sym}
use Rattle.fp_flatnet.specs.Tables.{windows_in}
use Rattle.fp_allowed.proofs.DepartureCounts.{departures_some}
use Rattle.fp_allowed.proofs.departures_left.departures_by.Goals as goal

pub returns-in-Some-clause-exact : goal.returns-in-Some-clause-exact
returns-in-Some-clause-exact c = λ p others own free.
    departures_some p c.args.shipment c.args.arc c.in-Some.lo c.in-Some.hi c.count_moments.result others c.args.sides.now (windows_in c.args.windows.now c.args.shipment c.args.arc)
    (sym c.in-Some.ensures) own free c.count_moments.ensures.exact
