use Rattle.std.proofs.Common.{List, arith}
use Rattle.fp_model.specs.declared.parts.Leg.{Leg}
use Rattle.fp_relaxmodel.specs.Relaxed.{HasRoutes}
use Rattle.fp_relaxmodel.proofs.RouteCosts.{HasRoutes-exist, HasRoutes-long, cost-routes-fits}
use Rattle.fp_relaxmodel.proofs.relaxed_costs.relaxed_cost.Goals as goal

pub walks_cost-requires : goal.walks_cost-requires
walks_cost-requires c =
    let walks : List (List Leg) = c.as_slice.result.now in
    let routes : HasRoutes c.args.instance.now walks = rw (c.as_slice.ensures.value, c.relaxed.view_is) c.requires in
    record {
      long = HasRoutes-long c.args.instance.now walks routes;
      arcs = HasRoutes-exist c.args.instance.now walks routes;
      fits = omega (arith, cost-routes-fits c.args.instance.now walks c.arcs-known.ensures.valid routes);
    }
