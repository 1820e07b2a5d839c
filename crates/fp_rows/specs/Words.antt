-- Words of 64 bits, and the bits in them.
use Rattle.std.specs.Prelude.{ℕ, ◌≡◌, ◌<◌, ◌≤◌, ◌/◌, ◌%◌, Bool, true, false, Option, MatchOption, List, map, length, slice_index, not, bit_and, ◌==◌, ◌&&◌, nat_le, nat_lt}
use Rattle.std.specs.List.{range_with_len}
use Rattle.std.specs.Int.{bit_at, bit_not, div_ceil, w64}

-- whether a word has a bit that is 1
abbrev pub is_set : ℕ → Bool
is_set word = not (word == 0)

-- a word without the bits of another
abbrev pub without : ℕ → ℕ → ℕ
without word lost = bit_and word (bit_not w64 lost)

-- the bits of a word, each 0 or 1, the lowest first
abbrev pub word_bits : ℕ → List ℕ
word_bits word = map (bit_at word) (range_with_len 0 64)

-- bit i of the words one after another, the lowest of the first word first, and false past them
abbrev pub bit_in : List ℕ → ℕ → Bool
bit_in words i = bit_at (slice_index words (i / 64)) (i % 64) == 1

-- the first bits of the words, so many of them
abbrev pub bits : List ℕ → ℕ → List Bool
bits words count = map (bit_in words) (range_with_len 0 count)

-- a place lies in a range that goes up to and without its end
abbrev pub is_within : ℕ → ℕ → ℕ → Bool
is_within from to i = nat_le from i && nat_lt i to

-- there are just the words that the bits need, and no bit past the length is set
pub record IsTidy (words : List ℕ) (count : ℕ) : Type 0 where
  pub enough : length words ≡ div_ceil count 64
  pub past : (i : ℕ) → count ≤ i → bit_in words i ≡ false

-- the first place of a range that passes a test, or that none does
abbrev pub IsFirstWithin : (ℕ → Bool) → ℕ → ℕ → Option ℕ → Type 0
IsFirstWithin test from to o =
    MatchOption o ((i : ℕ) → from ≤ i → i < to → test i ≡ false)
    (λ k. (from ≤ k) × (k < to) × (test k ≡ true) × ((i : ℕ) → from ≤ i → i < k → test i ≡ false))
