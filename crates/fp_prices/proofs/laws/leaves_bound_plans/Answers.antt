use Rattle.fp_prices.proofs.PlanBounds.{leaves-bound-plans}
use Rattle.fp_prices.proofs.laws.leaves_bound_plans.Goals as goal

pub returns : goal.returns
returns c = leaves-bound-plans
