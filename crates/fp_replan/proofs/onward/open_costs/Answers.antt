use Rattle.std.proofs.Common.{◌<◌, length}
use Rattle.fp_replan.proofs.OnwardWalks.{costs-more}
use Rattle.fp_replan.proofs.onward.open_costs.Goals as goal

pub loop-number-preserved : goal.loop-number-preserved
loop-number-preserved c =
    let p = c.args.instance.now in
    let lt : c.loop-number.number < length p.arcs = rw (← c.arcs-number-end.ensures.same) c.loop-number-test.true in
    costs-more p c.args.gone.now c.loop-number.number c.open_cost.result c.loop-number.costs.items c.push.new.self.items lt c.loop-number.invariant
    c.open_cost.ensures c.in_ok-push.ensures.items
