-- Numbers drawn one after the other from a seed, by a linear congruential generator.
-- The source: the example of `rand` in the C standard, ISO/IEC 9899:1990, section 7.10.2, whose
-- number is kept modulo 2^31 here.
use Rattle.std.specs.Prelude.{ℕ, ◌+◌, ◌*◌, ◌/◌, ◌%◌, ◌^◌}

-- the number after a number
abbrev pub next_number : ℕ → ℕ
next_number x = (1103515245 * x + 12345) % 2 ^ 31

-- what is drawn of `count` values, 0 and up, where the number before the draw is `x`: the high bits
-- of the next number, since the low ones hardly change
abbrev pub drawn : ℕ → ℕ → ℕ
drawn x count = (next_number x / 65536) % count
