use Rattle.std.proofs.Common.{◌≡◌, take}
use Rattle.fp_model.specs.Routes.{arcs_of}
use Rattle.fp_longestarcs.specs.Stops.{legs_of}
use Rattle.fp_longestarcs.proofs.timed_walks.TimedWalk.arcs.Given as goal

-- the arcs of the classes so far
abbrev pub invariant-loop-stop : goal.invariant-loop-stop
invariant-loop-stop l = l.arcs.items ≡ arcs_of (legs_of (take l.stop-index l.stop-items))
