use Rattle.std.proofs.Common.{sym, subst, arith}
use Rattle.std.proofs.lemmas.Grind.{common_steps}
use Rattle.fp_model.specs.Costs.{cost}
use Rattle.fp_model.specs.Plans.{PlanExists}
use Rattle.fp_model.specs.Problem.{Problem}
use Rattle.fp_replan.specs.Quotes.{HasPlanAtMost}
use Rattle.fp_replan.proofs.PlansWithout.{HasPlanAtMost-without_last, PlanExists-without_last}
use Rattle.fp_replan.proofs.instances.without_last.Goals as goal

pub returns-clause-same : goal.returns-clause-same
returns-clause-same c = grind (arith, common_steps)

pub returns-clause-plan : goal.returns-clause-plan
returns-clause-plan c =
    λ plan.
    subst PlanExists (sym (returns-clause-same c)) (PlanExists-without_last c.args.instance.now plan)

pub returns-clause-cheaper : goal.returns-clause-cheaper
returns-clause-cheaper c =
    λ d routes some plan.
    subst (λ (p : Problem). HasPlanAtMost p d (cost c.args.instance.now routes)) (sym (returns-clause-same c))
    (HasPlanAtMost-without_last c.args.instance.now d routes plan)
