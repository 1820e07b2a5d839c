use Rattle.std.proofs.Common.{◌≡◌, List, ap, ◌∙◌, arith}
use Rattle.fp_model.specs.declared.parts.Leg.{Leg}
use Rattle.fp_model.specs.Costs.{flow_total}
use Rattle.fp_base_lists.specs.Vectors.{lists_of}
use Rattle.fp_model.proofs.Bounds.{AreReady, AreReady-plan, cost_fits}
use Rattle.fp_timetable.proofs.DepartureLines.{sum-lines}
use Rattle.fp_timetable.proofs.ExistingLines.{TruckExists-plan}
use Rattle.fp_timetable.proofs.plan_costs.plan_cost.Goals as goal

-- the routes are the plan's
lists : (c : goal.After-as_slice) → lists_of c.as_slice.result.now ≡ c.args.plan.now
lists c = ap lists_of c.as_slice.ensures.value ∙ c.plan.view_is

ready : (c : goal.After-as_slice) → AreReady c.args.instance.now c.as_slice.result.now
ready c = AreReady-plan c.args.instance.now 1 c.as_slice.result.now c.args.plan.now (lists c) c.arcs-known.ensures.valid c.requires.plan

pub trucks_cost-requires-clause-arcs : goal.trucks_cost-requires-clause-arcs
trucks_cost-requires-clause-arcs c =
    TruckExists-plan c.args.instance.now c.args.plan.now c.args.lines.now c.arcs-known.ensures.valid c.requires.plan c.requires.lines

pub trucks_cost-requires-clause-fits : goal.trucks_cost-requires-clause-fits
trucks_cost-requires-clause-fits c =
    omega (
      arith,
      sum-lines c.args.instance.now c.args.plan.now c.args.lines.now c.requires.lines,
      cost_fits c.args.instance.now 1 c.args.plan.now c.arcs-known.ensures.valid c.requires.plan,
    )

pub routes_flow-requires-clause-long : goal.routes_flow-requires-clause-long
routes_flow-requires-clause-long c = (ready c).long

pub routes_flow-requires-clause-arcs : goal.routes_flow-requires-clause-arcs
routes_flow-requires-clause-arcs c = (ready c).arcs

pub routes_flow-requires-clause-fits : goal.routes_flow-requires-clause-fits
routes_flow-requires-clause-fits c = omega (arith, (ready c).fits)

pub overflow_add-result : goal.overflow_add-result
overflow_add-result c =
    let p = c.args.instance.now in
    let flow = ap (λ (R : List (List Leg)). flow_total p p.shipments R) (ap lists_of c.as_slice.ensures.value ∙ c.plan.view_is) in
    omega (
      arith,
      sum-lines p c.args.plan.now c.args.lines.now c.requires.lines,
      cost_fits p 1 c.args.plan.now c.arcs-known.ensures.valid c.requires.plan,
      c.trucks_cost.ensures,
      c.routes_flow.ensures,
      flow,
    )

pub returns : goal.returns
returns c =
    let p = c.args.instance.now in
    let flow = ap (λ (R : List (List Leg)). flow_total p p.shipments R) (ap lists_of c.as_slice.ensures.value ∙ c.plan.view_is) in
    omega (arith, sum-lines p c.args.plan.now c.args.lines.now c.requires.lines, c.trucks_cost.ensures, c.routes_flow.ensures, flow)
