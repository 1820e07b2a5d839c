use Rattle.fp_app.specs.Checks.{AreWindowsOf}
use Rattle.fp_app.specs.Wanted.{every}
use Rattle.fp_app.proofs.commands.plans.told_plan.Goals as goal

pub returns-clause-plan : goal.returns-clause-plan
returns-clause-plan c =
    let windows : AreWindowsOf c.args.instance.now c.in_ok-windows.windows =
    record { exact = c.in_ok-windows.ensures.windows; unanchored = c.in_ok-windows.ensures.anchors; belongs = c.in_ok-windows.ensures.belongs } in
    c.plan_within.ensures.told every windows

pub returns-clause-part : goal.returns-clause-part
returns-clause-part c = λ number same.
    let windows : AreWindowsOf c.args.instance.now c.in_ok-windows.windows =
    record { exact = c.in_ok-windows.ensures.windows; unanchored = c.in_ok-windows.ensures.anchors; belongs = c.in_ok-windows.ensures.belongs } in
    c.plan_within.ensures.part every number windows same
