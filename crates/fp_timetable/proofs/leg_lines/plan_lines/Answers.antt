use Rattle.fp_timetable.proofs.PlanLegs.{AreReady, AreReady-plan}
use Rattle.fp_timetable.proofs.leg_lines.plan_lines.Goals as goal

pub all_lines-requires-clause-few : goal.all_lines-requires-clause-few
all_lines-requires-clause-few c =
    let ready : AreReady c.args.instance.now c.plan.inside.routes.items =
    AreReady-plan _ _ _ c.plan.view_is c.arcs-known.ensures.valid c.requires in
    rw c.as_slice.ensures.value ready.few

pub all_lines-requires-clause-arrive : goal.all_lines-requires-clause-arrive
all_lines-requires-clause-arrive c =
    let ready : AreReady c.args.instance.now c.plan.inside.routes.items =
    AreReady-plan _ _ _ c.plan.view_is c.arcs-known.ensures.valid c.requires in
    rw c.as_slice.ensures.value ready.arrive
