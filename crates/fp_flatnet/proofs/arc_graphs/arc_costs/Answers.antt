use Rattle.std.proofs.Common.{◌<◌, length, ◌∙◌}
use Rattle.fp_flatnet.proofs.ArcTimes.{costs-more}
use Rattle.fp_flatnet.proofs.arc_graphs.arc_costs.Goals as goal

pub loop-number-preserved : goal.loop-number-preserved
loop-number-preserved c =
    let p = c.args.instance.now in
    let lt : c.loop-number.number < length p.arcs = rw (← c.arcs-number-end.ensures.same) c.loop-number-test.true in
    costs-more p c.loop-number.number c.from.result c.loop-number.costs.items c.push.new.self.items lt c.loop-number.invariant (c.from.ensures ∙ c.step.ensures.same) c.in_ok-push.ensures.items
