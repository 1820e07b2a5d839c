use Rattle.std.proofs.Common.{◌≡◌, map, take}
use Rattle.fp_longestarcs.specs.Classes.{class_of}
use Rattle.fp_longestarcs.specs.Networks.{points_in}
use Rattle.fp_longestarcs.specs.Stops.{legs_of}
use Rattle.fp_relaxmodel.proofs.coarsening.classes.Given as goal

-- the classes of the legs so far
abbrev pub invariant-loop-leg : goal.invariant-loop-leg
invariant-loop-leg l = legs_of l.stops.items ≡ map (class_of l.instance (points_in l.network) 1) (take l.leg-index l.route)
