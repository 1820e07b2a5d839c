use Rattle.fp_prices_gifts.proofs.MomentLeaves.{moment_leaves-bound-plans}
use Rattle.fp_prices_gifts.proofs.laws.moment_leaves_bound_plans.Goals as goal

pub returns : goal.returns
returns c = moment_leaves-bound-plans
