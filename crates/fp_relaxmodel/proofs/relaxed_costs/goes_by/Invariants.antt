use Rattle.std.proofs.Common.{◌≡◌, drop}
use Rattle.fp_model.specs.Costs.{has_leg}
use Rattle.fp_longestarcs.specs.Stops.{leg_of, legs_of}
use Rattle.fp_relaxmodel.proofs.relaxed_costs.goes_by.Given as goal

-- the classes that are left decide
abbrev pub invariant-loop-other : goal.invariant-loop-other
invariant-loop-other l =
    has_leg (leg_of l.stop) (legs_of (drop l.other-index l.stops)) ≡ has_leg (leg_of l.stop) (legs_of l.stops)
