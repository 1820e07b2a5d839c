use Rattle.std.proofs.Common.{◌≡◌, ◌+◌, drop}
use Rattle.fp_model.specs.Costs.{all_legs, cost_with}
use Rattle.fp_base_lists.specs.Vectors.{lists_of}
use Rattle.fp_model.proofs.costs.route_cost.Given as goal

-- the total, and what the legs that are left add, are what the route adds
abbrev pub invariant-loop-place : goal.invariant-loop-place
invariant-loop-place l =
    let routes = lists_of l.routes in
    let later = all_legs (lists_of l.later) in
    l.total + cost_with l.instance routes l.size (drop l.place l.route) later ≡ cost_with l.instance routes l.size l.route later
