use Rattle.std.proofs.Common.{take}
use Rattle.fp_prices_knapsack.specs.Sets.{sizes_of}
use Rattle.fp_prices_knapsack.proofs.Divisors.{IsGreatestDivisor}
use Rattle.fp_prices_knapsack.proofs.grains.divisor_of_all.Given as goal

abbrev pub invariant-loop-item : goal.invariant-loop-item
invariant-loop-item l = IsGreatestDivisor l.number (sizes_of (take l.item-index l.items)) l.divisor
