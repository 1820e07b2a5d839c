-- What the calls on a row do to its bits, as a list of truth values.
use Rattle.std.specs.Prelude.{ℕ, ◌+◌, ◌-◌, Bool, ◌&&◌, not, if◌then◌else◌, List, ◌++◌, take, drop, replicate, Option, option_map, count_by, position}
use Rattle.std.specs.List.{list_any}
use Rattle.std.specs.Simd.Lanes.{zip2}

-- each bit and the other row's at its place
abbrev pub and_bits : List Bool → List Bool → List Bool
and_bits = zip2 (λ a b. a && b)

-- each bit that the other row does not have at its place
abbrev pub and_not_bits : List Bool → List Bool → List Bool
and_not_bits = zip2 (λ a b. a && not b)

-- the bits with those from one place up to and without another made the same
abbrev pub with_range : List Bool → ℕ → ℕ → Bool → List Bool
with_range bits from to value = take from bits ++ (replicate (to - from) value ++ drop to bits)

-- no bit is true
abbrev pub are_all_false : List Bool → Bool
are_all_false bits = not (list_any (λ b. b) bits)

-- the least place, from one place on, of a bit that is true
abbrev pub first_true_from : List Bool → ℕ → Option ℕ
first_true_from bits at = option_map (λ k. at + k) (position (λ b. b) (drop at bits))

-- how many bits are true
abbrev pub count_true : List Bool → ℕ
count_true = count_by (λ b. b)

-- 1 for true, 0 for false
abbrev pub as_one : Bool → ℕ
as_one b = if b then 1 else 0

-- each count grown by one where the bit at its place is true
abbrev pub added_bits : List ℕ → List Bool → List ℕ
added_bits = zip2 (λ n b. n + as_one b)
