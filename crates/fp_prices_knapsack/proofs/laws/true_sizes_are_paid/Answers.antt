use Rattle.fp_prices_knapsack.proofs.TrueSizes.{true_sizes-paid}
use Rattle.fp_prices_knapsack.proofs.laws.true_sizes_are_paid.Goals as goal

pub returns : goal.returns
returns c = true_sizes-paid
