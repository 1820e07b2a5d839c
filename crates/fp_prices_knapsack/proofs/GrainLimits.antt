-- The two cases of a grain, and how many grains there are.
use Rattle.std.proofs.Common.{◌≡◌, ℕ, ◌+◌, ◌*◌, ◌<◌, ◌≤◌, List, sum, leb, arith}
use Rattle.std.specs.Prelude.{◌/◌}
use Rattle.std.specs.Int.{div_ceil}
use Rattle.std.proofs.Math.Nat.{div-le_self}
use Rattle.std.proofs.lemmas.Bool.{cond-true, cond-false, le-leb, lt-leb}
use Rattle.std.proofs.lemmas.Nat.{div_below}
use Rattle.fp_base_lists.proofs.Ceilings.{div_ceil-some, div_ceil-holds}
use Rattle.fp_prices_knapsack.specs.declared.grains.TheConstants.{MOST_GRAINS}
use Rattle.fp_prices_knapsack.specs.Grains.{common_divisor, grain_of}

-- few enough common divisors
pub grain_of-divisor : (capacity : ℕ) (sizes : List ℕ) → sum sizes / common_divisor capacity sizes ≤ MOST_GRAINS → grain_of capacity sizes ≡ common_divisor capacity sizes
unfolding grain_of
grain_of-divisor capacity sizes few =
    cond-true (leb (sum sizes / common_divisor capacity sizes) MOST_GRAINS) (common_divisor capacity sizes) (div_ceil (sum sizes) MOST_GRAINS)
    (le-leb (sum sizes / common_divisor capacity sizes) MOST_GRAINS few)

-- too many
pub grain_of-quotient : (capacity : ℕ) (sizes : List ℕ) → MOST_GRAINS < sum sizes / common_divisor capacity sizes → grain_of capacity sizes ≡ div_ceil (sum sizes) MOST_GRAINS
unfolding grain_of
grain_of-quotient capacity sizes many =
    cond-false (leb (sum sizes / common_divisor capacity sizes) MOST_GRAINS) (common_divisor capacity sizes) (div_ceil (sum sizes) MOST_GRAINS)
    (lt-leb (sum sizes / common_divisor capacity sizes) MOST_GRAINS many)
