use Rattle.std.proofs.Common.{refl, rules}
use Rattle.fp_app.specs.Plans.{IsToldPlan}
use Rattle.fp_app.proofs.DrawnLogs.{IsPrintable-drawn}
use Rattle.fp_app.proofs.commands.yards.run_plan.Goals as goal

pub returns-in-Ok-clause-shown : goal.returns-in-Ok-clause-shown
returns-in-Ok-clause-shown c = λ wanted windows.
    let told : IsToldPlan c.args.instance wanted c.args.certificate.now c.in-Ok.plan = rw c.in-Ok.is at (c.plan_within.ensures.told wanted windows) in
    (refl, told, c.in_ok-log-in-Ok.ensures)

pub returns-in-Ok-clause-printable : goal.returns-in-Ok-clause-printable
returns-in-Ok-clause-printable c =
    IsPrintable-drawn c.args.instance c.in-Ok.plan c.args.seed c.in_ok-log-in-Ok.log.items c.in-Ok.ensures.plan c.in_ok-log-in-Ok.ensures

pub returns-in-Err-Part-clause-shown : goal.returns-in-Err-Part-clause-shown
returns-in-Err-Part-clause-shown c = λ wanted windows. c.in-Err-Part.ensures.part wanted _ windows (search rules)
