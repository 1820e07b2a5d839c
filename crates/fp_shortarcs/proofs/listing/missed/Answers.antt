use Rattle.std.proofs.Common.{◌≤◌, arith}
use Rattle.fp_model.specs.declared.limits.TheConstants.{LATEST}
use Rattle.fp_longestarcs.specs.Stops.{leg_of}
use Rattle.fp_shortarcs.proofs.NewPlaces.{class-in_time}
use Rattle.fp_shortarcs.proofs.listing.missed.Goals as goal

pub overflow_add-at : goal.overflow_add-at
overflow_add-at c =
    let in_time : c.args.stop.point ≤ LATEST = class-in_time c.args.instance.now c.args.network.now (leg_of c.args.stop) c.requires.whole c.requires.class in
    omega (arith, in_time, c.step.ensures.short)
