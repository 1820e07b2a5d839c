-- The order of pairs of numbers.
use Rattle.std.specs.Prelude.{ℕ, ◌≡◌, ◌<◌, ◌⊎◌}

-- one pair of numbers stands before another: by the first numbers, and where these are equal by the second
abbrev pub Precedes : (a b c d : ℕ) → Type 0
Precedes a b c d = (a < c) ⊎ ((a ≡ c) × (b < d))
