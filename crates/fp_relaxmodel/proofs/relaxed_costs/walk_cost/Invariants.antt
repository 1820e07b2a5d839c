use Rattle.std.proofs.Common.{◌≡◌, ◌+◌, drop}
use Rattle.fp_model.specs.Costs.{all_legs, cost_with}
use Rattle.fp_longestarcs.specs.Stops.{legs_of}
use Rattle.fp_relaxmodel.proofs.relaxed_costs.walk_cost.Given as goal

-- the total, and what the classes that are left add, are what the walk adds
abbrev pub invariant-loop-place : goal.invariant-loop-place
invariant-loop-place l =
    let later = all_legs l.later in
    l.total + cost_with l.instance l.walks l.size (legs_of (drop l.place l.stops)) later ≡ cost_with l.instance l.walks l.size (legs_of l.stops) later
