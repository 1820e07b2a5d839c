use Rattle.fp_model.proofs.Bounds.{AreReady, AreReady-plan}
use Rattle.fp_model.proofs.costs.cost.Goals as goal

pub routes_cost-requires : goal.routes_cost-requires
routes_cost-requires c =
    let ready : AreReady c.args.instance.now c.plan.inside.routes.items =
    AreReady-plan _ _ _ _ c.plan.view_is c.arcs-known.ensures.valid c.requires in
    rw c.as_slice.ensures.value (record { long = ready.long; arcs = ready.arcs; fits = ready.fits })
