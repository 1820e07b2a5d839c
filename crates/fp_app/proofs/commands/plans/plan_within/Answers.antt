use Rattle.fp_app.proofs.UntoldPlans.{IsPlanRejected-ShowsUntold, read-plan, read-told, read-within}
use Rattle.fp_app.proofs.commands.plans.plan_within.Goals as goal

pub returns-clause-plan : goal.returns-clause-plan
returns-clause-plan c = read-plan c.args.instance.now c.args.windows.now c.args.certificate.now c.plan_of.result c.plan_of.ensures.plan c.plan_of.ensures.holds

pub returns-clause-within : goal.returns-clause-within
returns-clause-within c = read-within c.args.instance.now c.args.windows.now c.args.certificate.now c.plan_of.result c.plan_of.ensures.plan c.plan_of.ensures.holds

pub returns-clause-told : goal.returns-clause-told
returns-clause-told c = λ wanted windows.
    read-told c.args.instance.now c.args.windows.now c.args.certificate.now c.plan_of.result c.plan_of.ensures.plan c.plan_of.ensures.holds wanted windows c.plan_of.ensures.answer

pub returns-clause-part : goal.returns-clause-part
returns-clause-part c = λ wanted number windows same.
    IsPlanRejected-ShowsUntold c.args.instance.now wanted c.args.windows.now c.args.certificate.now number windows (c.plan_of.ensures.part number same)
