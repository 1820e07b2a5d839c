use Rattle.std.proofs.Common.{◌≡◌, ◌+◌, drop}
use Rattle.fp_model.specs.Costs.{all_legs, cost, departures_cost, flow_total}
use Rattle.fp_relaxmodel.proofs.relaxed_costs.walks_cost.Given as goal

-- the total, and what the walks that are left add, are the whole cost
abbrev pub invariant-loop-at : goal.invariant-loop-at
invariant-loop-at l =
    let rest = drop l.at l.walks in
    l.total + (departures_cost l.instance l.walks (all_legs rest) + flow_total l.instance (drop l.at l.instance.shipments) rest)
    ≡ cost l.instance l.walks
