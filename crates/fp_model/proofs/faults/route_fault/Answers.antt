use Rattle.std.proofs.Common.{arith, ◌≤◌, length}
use Rattle.fp_model.proofs.Faultless.{few_faultless}
use Rattle.fp_model.proofs.FirstFaults.{exist_below}
use Rattle.fp_model.proofs.faults.route_fault.Goals as goal

pub leg_fault-requires-clause-earlier : goal.leg_fault-requires-clause-earlier
leg_fault-requires-clause-earlier c =
    exist_below c.args.instance.now c.args.shipment.now c.args.route.now c.loop-place.place (omega arith) c.loop-place.invariant

pub overflow_cast-result : goal.overflow_cast-result
overflow_cast-result c =
    let few : c.loop-place.place ≤ length c.args.instance.now.arcs =
    few_faultless c.args.instance.now c.args.shipment.now c.args.route.now c.loop-place.place (omega arith) c.loop-place.invariant in
    omega (arith, few, c.leg_fault.ensures.valid.parts.few_arcs)
