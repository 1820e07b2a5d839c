use Rattle.fp_relaxmodel.proofs.WrittenStops.{arc-exists}
use Rattle.fp_relaxmodel.proofs.relaxed_costs.walk_cost.Goals as goal

pub class_cost-total-requires-clause-arc : goal.class_cost-total-requires-clause-arc
class_cost-total-requires-clause-arc c =
    arc-exists c.args.instance.now c.args.stops.now c.loop-place.place _ c.requires.arcs c.loop-place-test.true

pub arc-arc-requires : goal.arc-arc-requires
arc-arc-requires c =
    arc-exists c.args.instance.now c.args.stops.now c.loop-place.place _ c.requires.arcs c.loop-place-test.true
