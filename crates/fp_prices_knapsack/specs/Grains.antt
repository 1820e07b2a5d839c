-- The grain in which sizes are counted.
use Rattle.std.specs.Prelude.{ℕ, zero, suc, ◌==◌, ◌/◌, ◌%◌, Bool, List, ◌∷◌, sum, nat_le, if◌then◌else◌}
use Rattle.std.specs.List.{list_all}
use Rattle.std.specs.Int.{div_ceil}
use Rattle.fp_prices_knapsack.specs.declared.grains.TheConstants.{MOST_GRAINS}

-- whether a number divides each of the numbers
abbrev pub divides_each : ℕ → List ℕ → Bool
divides_each divisor numbers = list_all (λ number. number % divisor == 0) numbers

-- the greatest number up to a bound, and from 1, that passes a test; 0 where none does
abbrev pub greatest_until : ℕ → (ℕ → Bool) → ℕ
greatest_until zero test = 0
greatest_until (suc n) test = if test (suc n) then suc n else greatest_until n test

-- the greatest common divisor of a number and others
unfoldable pub common_divisor : ℕ → List ℕ → ℕ
common_divisor number others = greatest_until number (λ divisor. divides_each divisor (number ∷ others))

-- the grain of a truck's capacity and some sizes: their greatest common divisor, where all sizes together have at
-- most 4,096 of it; otherwise all sizes together over 4,096, rounded up
unfoldable pub grain_of : ℕ → List ℕ → ℕ
grain_of capacity sizes =
    if nat_le (sum sizes / common_divisor capacity sizes) MOST_GRAINS
    then common_divisor capacity sizes
    else div_ceil (sum sizes) MOST_GRAINS
