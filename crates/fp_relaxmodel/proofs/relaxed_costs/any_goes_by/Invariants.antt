use Rattle.std.proofs.Common.{◌≡◌, drop}
use Rattle.fp_model.specs.Costs.{all_legs, has_leg}
use Rattle.fp_longestarcs.specs.Stops.{leg_of}
use Rattle.fp_relaxmodel.proofs.relaxed_costs.any_goes_by.Given as goal

-- the walks that are left decide
abbrev pub invariant-loop-walk : goal.invariant-loop-walk
invariant-loop-walk l =
    has_leg (leg_of l.stop) (all_legs (drop l.walk-index l.walks)) ≡ has_leg (leg_of l.stop) (all_legs l.walks)
