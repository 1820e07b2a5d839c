use Rattle.std.proofs.Common.{◌≡◌, rules}
use Rattle.fp_relaxmodel.proofs.PlansCoarsen.{route-arcs}
use Rattle.fp_relaxmodel.proofs.coarsening.relaxed.Goals as goal

pub classes-requires-clause-route : goal.classes-requires-clause-route
classes-requires-clause-route c =
    let same : c.deref.result.now ≡ c.route-item.result.items = search rules in
    rw same (route-arcs c.args.instance.now c.plan.inside.routes.items c.args.plan.now c.loop-route.route-index c.route-item.result c.plan.view_is c.requires.routes (search rules) (search rules))
