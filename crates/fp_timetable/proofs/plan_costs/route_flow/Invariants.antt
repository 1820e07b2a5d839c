use Rattle.std.proofs.Common.{◌≡◌, take}
use Rattle.fp_model.specs.Costs.{flow_cost}
use Rattle.fp_timetable.proofs.plan_costs.route_flow.Given as goal

-- what the legs that were passed cost
abbrev pub invariant-loop-leg : goal.invariant-loop-leg
invariant-loop-leg l = l.total ≡ flow_cost l.instance l.size (take l.leg-index l.route)
