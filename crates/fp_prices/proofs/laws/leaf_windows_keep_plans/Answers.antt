use Rattle.fp_prices.proofs.LeafPlans.{leaf_windows-keep_plans}
use Rattle.fp_prices.proofs.laws.leaf_windows_keep_plans.Goals as goal

pub returns : goal.returns
returns c = leaf_windows-keep_plans
