use Rattle.std.proofs.Common.{◌≡◌, ◌+◌, drop}
use Rattle.fp_model.specs.Costs.{all_legs, cost, departures_cost, flow_total}
use Rattle.fp_base_lists.specs.Vectors.{lists_of}
use Rattle.fp_model.proofs.costs.routes_cost.Given as goal

-- the total, and what the routes that are left add, are the whole cost
abbrev pub invariant-loop-at : goal.invariant-loop-at
invariant-loop-at l =
    let routes = lists_of l.routes in
    let rest = lists_of (drop l.at l.routes) in
    l.total + (departures_cost l.instance routes (all_legs rest) + flow_total l.instance (drop l.at l.instance.shipments) rest)
    ≡ cost l.instance routes
