use Rattle.std.proofs.Common.{ℕ}
use Rattle.std.specs.Int.{IsGcd}
use Rattle.fp_prices_knapsack.proofs.common_divisors.greatest_common_divisor.Given as goal

abbrev pub invariant-loop-second : goal.invariant-loop-second
invariant-loop-second l = (g : ℕ) → IsGcd l.first l.second g → IsGcd l.fn.first l.fn.second g

abbrev pub decreases-loop-second : goal.decreases-loop-second
decreases-loop-second l = l.second
