use Rattle.std.proofs.Common.{◌≡◌, ◌+◌, drop}
use Rattle.fp_model.specs.Costs.{flow_total}
use Rattle.fp_base_lists.specs.Vectors.{lists_of}
use Rattle.fp_timetable.proofs.plan_costs.routes_flow.Given as goal

-- what the routes that were passed cost, and what those that are left do
abbrev pub invariant-loop-number : goal.invariant-loop-number
invariant-loop-number l =
    l.total + flow_total l.instance (drop l.number l.instance.shipments) (lists_of (drop l.number l.routes)) ≡ flow_total l.instance l.instance.shipments (lists_of l.routes)
