use Rattle.std.proofs.Common.{List, ◌≤◌, arith, sym, subst}
use Rattle.std.proofs.lemmas.Result.{IfOk-weaker}
use Rattle.fp_model.specs.declared.parts.Leg.{Leg}
use Rattle.fp_model.specs.Costs.{cost}
use Rattle.fp_longestarcs.specs.Networks.{points_in}
use Rattle.fp_flatnet.specs.Tables.{windows_in}
use Rattle.fp_relaxmodel.specs.Relaxed.{IsRelaxedPlan}
use Rattle.fp_relaxmodel.proofs.PlansCoarsen.{HasRoutes-plan, coarsens-plans, cost-coarsened, relaxed-coarsened}
use Rattle.fp_relaxmodel.proofs.RouteCosts.{HasRoutes-exist}
use Rattle.fp_relaxmodel.proofs.coarsening.coarsen.Goals as goal

pub relaxed-requires-clause-routes : goal.relaxed-requires-clause-routes
relaxed-requires-clause-routes c =
    HasRoutes-exist c.args.instance.now c.args.plan.now (HasRoutes-plan c.args.instance.now 1 c.args.plan.now c.requires.plan)

pub returns-clause-relaxed : goal.returns-clause-relaxed
returns-clause-relaxed c =
    let IsRelaxed : List (List Leg) → Type 0 = IsRelaxedPlan c.args.instance.now (windows_in c.args.windows.now) (points_in c.args.network.now) in
    IfOk-weaker c.relaxed.result _ _ (λ r is. subst IsRelaxed (sym is)
    (relaxed-coarsened c.args.instance.now (windows_in c.args.windows.now) (points_in c.args.network.now) 1 c.args.plan.now (omega arith) c.requires.plan c.requires.within)) c.relaxed.ensures

pub returns-clause-cheaper : goal.returns-clause-cheaper
returns-clause-cheaper c =
    let IsCheaper : List (List Leg) → Type 0 = λ r. cost c.args.instance.now r ≤ cost c.args.instance.now c.args.plan.now in
    IfOk-weaker c.relaxed.result _ _ (λ r is. subst IsCheaper (sym is) (cost-coarsened c.args.instance.now (points_in c.args.network.now) 1 c.args.plan.now)) c.relaxed.ensures

pub returns-clause-all : goal.returns-clause-all
returns-clause-all c = coarsens-plans c.args.instance.now (windows_in c.args.windows.now) (points_in c.args.network.now)
