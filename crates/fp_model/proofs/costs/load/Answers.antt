use Rattle.std.proofs.Common.{arith, ◌∙◌, ap, sym, length}
use Rattle.fp_model.proofs.Bounds.{AreReady, AreReady-plan}
use Rattle.fp_model.proofs.costs.load.Goals as goal

pub load_on-requires : goal.load_on-requires
load_on-requires c =
    let ready : AreReady c.args.instance.now c.plan.inside.routes.items =
    AreReady-plan _ _ _ _ c.plan.view_is c.shipments.ensures.valid c.requires in
    record {
      routes = ap length c.as_slice.ensures.value ∙ ready.long ∙ sym (ap length c.shipments.ensures.same);
      few = omega (arith, ap length c.shipments.ensures.same, c.shipments.ensures.valid.parts.few_shipments);
    }
