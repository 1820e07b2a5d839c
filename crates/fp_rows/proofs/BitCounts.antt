-- How many bits are set, and whether any is, by words and by bits.
use Rattle.std.proofs.Common.{◌≡◌, ℕ, zero, suc, ◌+◌, ◌-◌, ◌*◌, ◌/◌, ◌%◌, ◌<◌, ◌≤◌, ◌≢◌, ◌^◌, Bool, true, false, cond, List, [], ◌∷◌, length, get_or, map, sum_by, count_by, ⊎_elim, refl, sym, ap, ◌∙◌, arith}
use Rattle.std.specs.Prelude.{nat_eq, not, count_ones}
use Rattle.std.specs.Int.{bit_at, trailing_zeros, w64}
use Rattle.std.specs.List.{list_any, range_with_len}
use Rattle.std.specs.Simd.Lanes.{mask_l}
use Rattle.std.proofs.lemmas.Bool.{cases_eq, cases_lt, ne_eqb, both_ways}
use Rattle.std.proofs.lemmas.Bool.Decides.{same_from_decides}
use Rattle.std.proofs.lemmas.List.FromFn.{sum_by-map-range_with_len_more, get_or-map-range_with_len}
use Rattle.std.proofs.lemmas.List.{get_or_default}
use Rattle.std.proofs.lemmas.List.Folds.{Any-from_list_any, list_any-from_Any}
use Rattle.std.proofs.lemmas.List.Sums.{sum_by-cons}
use Rattle.std.proofs.lemmas.Simd.{ones-mask_l, mask_l-lt, bit_mask_l}
use Rattle.std.proofs.lemmas.Nat.Bits.{same_from_bits_below, bit_at-lt, bit_at-zero, bit_at-trailing_zeros}
use Rattle.fp_rows.specs.Words.{bit_in, bits, is_set, IsTidy}
use Rattle.fp_rows.specs.Bits.{count_true, as_one}
use Rattle.fp_rows.proofs.OneBit.{has_bit}
use Rattle.fp_rows.proofs.BitsIn.{length-bits, get_or-bits}
use Rattle.fp_rows.proofs.RangeMasks.{bit_in-at}

-- how many of the first places pass a test
abbrev count_below : (ℕ → Bool) → ℕ → ℕ
count_below test n = count_by (λ b. b) (map test (range_with_len 0 n))

count-more : (test : ℕ → Bool) (n : ℕ) → count_below test (suc n) ≡ count_below test n + cond (test n) 1 0
count-more test n =
    let next : n + 1 ≡ suc n = omega arith in
    ap (count_below test) (sym next) ∙ sum_by-map-range_with_len_more (λ b. cond b 1 0) test 0 n n (omega arith)

-- tests that agree on the first places count alike
count-same : (test other : ℕ → Bool) (n : ℕ) → ((i : ℕ) → i < n → test i ≡ other i) → count_below test n ≡ count_below other n
count-same test other zero same = refl
count-same test other (suc n) same =
    omega (arith, count-more test n, count-more other n, count-same test other n (λ i h. same i (omega arith)), ap as_one (same n (omega arith)))

-- places that fail add nothing
count-past : (test : ℕ → Bool) (n k : ℕ) → ((i : ℕ) → n ≤ i → test i ≡ false) → count_below test (n + k) ≡ count_below test n
count-past test n zero none = let e : n + 0 ≡ n = omega arith in ap (count_below test) e
count-past test n (suc k) none =
    let next : suc (n + k) ≡ n + suc k = omega arith in
    let last = ap as_one (none (n + k) (omega arith)) in
    omega (arith, ap (count_below test) next, count-more test (n + k), last, count-past test n k none)

-- the first places, and those after them
count-split : (test : ℕ → Bool) (n k : ℕ) → count_below test (n + k) ≡ count_below test n + count_below (λ i. test (n + i)) k
count-split test n zero = let e : n + 0 ≡ n = omega arith in omega (arith, ap (count_below test) e)
count-split test n (suc k) =
    let next : suc (n + k) ≡ n + suc k = omega arith in
    omega (arith, ap (count_below test) next, count-more test (n + k), count-more (λ i. test (n + i)) k, count-split test n k)

-- the bits of one word
count_by-map : {X : Type 0} (test : X → Bool) (xs : List X) → count_by (λ b. b) (map test xs) ≡ count_by test xs
count_by-map test [] = refl
count_by-map test (x ∷ xs) =
    omega (
      arith,
      sum_by-cons as_one (test x) (map test xs),
      sum_by-cons (λ y. as_one (test y)) x xs,
      count_by-map test xs,
    )

word-ones : (word : ℕ) → word < 2 ^ 64 → count_ones word ≡ count_below (has_bit word) 64
word-ones word fits = ap count_ones same ∙ ones-mask_l (has_bit word) (range_with_len 0 64) ∙ sym (count_by-map (has_bit word) (range_with_len 0 64))
  where
    ms : List Bool
    ms = map (has_bit word) (range_with_len 0 64)

    bit-back : (n : ℕ) → n < 2 → cond (nat_eq n 1) 1 0 ≡ n
    bit-back zero h = refl
    bit-back (suc zero) h = refl
    bit-back (suc (suc n)) h = absurd (omega arith)

    same : word ≡ mask_l ms
    same =
        same_from_bits_below 64 word (mask_l ms) fits (mask_l-lt ms)
        (λ i h. sym (bit-back (bit_at word i) (bit_at-lt word i)) ∙ ap as_one (sym (get_or-map-range_with_len (has_bit word) 0 64 i i false h (omega arith))) ∙ sym (bit_mask_l ms i))

-- the bits of all words
words-ones : (words : List ℕ) → ((k : ℕ) → get_or words k 0 < 2 ^ 64) → sum_by count_ones words ≡ count_below (bit_in words) (64 * length words)
words-ones [] fits = refl
words-ones (w ∷ words) fits =
    let next : 64 + 64 * length words ≡ 64 * length (w ∷ words) = omega arith in
    let first = count-same (has_bit w) (bit_in (w ∷ words)) 64 (λ i h. let at : 64 * 0 + i ≡ i = omega arith in sym (bit_in-at (w ∷ words) 0 i h) ∙ ap (bit_in (w ∷ words)) at) in
    let rest = count-same (bit_in words) (λ i. bit_in (w ∷ words) (64 + i)) (64 * length words) (λ i h. sym (later i)) in
    omega (
      arith,
      ap (count_below (bit_in (w ∷ words))) next,
      count-split (bit_in (w ∷ words)) 64 (64 * length words),
      first,
      rest,
      word-ones w (fits 0),
      sum_by-cons count_ones w words,
      words-ones words (λ k. fits (suc k)),
    )
  where
    later : (i : ℕ) → bit_in (w ∷ words) (64 + i) ≡ bit_in words i
    later i =
        let place : (64 + i) / 64 ≡ suc (i / 64) = omega arith in
        let left : (64 + i) % 64 ≡ i % 64 = omega arith in
        ap (λ (k : ℕ). has_bit (get_or (w ∷ words) k 0) ((64 + i) % 64)) place ∙ ap (λ (j : ℕ). has_bit (get_or words (i / 64) 0) j) left

-- the bits of a row
pub row-ones : (words : List ℕ) (count : ℕ) → IsTidy words count → ((k : ℕ) → get_or words k 0 < 2 ^ 64) → sum_by count_ones words ≡ count_true (bits words count)
row-ones words count tidy fits =
    let all : count + (64 * length words - count) ≡ 64 * length words = omega (arith, tidy.enough) in
    words-ones words fits ∙ ap (count_below (bit_in words)) (sym all) ∙ count-past (bit_in words) count (64 * length words - count) tidy.past

-- a word that is not 0 is at least 1
nonzero : (n : ℕ) → is_set n ≡ true → 0 < n
nonzero zero e = cc
nonzero (suc n) e = omega arith

-- a word with a bit that is set is not 0
set-by-bit : (word i : ℕ) → has_bit word i ≡ true → is_set word ≡ true
set-by-bit word i e =
    ⊎_elim
    (λ (zero_word : word ≡ 0).
    let none : has_bit word i ≡ false = ap (λ (w : ℕ). has_bit w i) zero_word ∙ ap (λ (n : ℕ). nat_eq n 1) (bit_at-zero i) in
    absurd (both_ways (has_bit word i) none e))
    (λ (other : word ≢ 0). ap not (ne_eqb word 0 other))
    (cases_eq word 0)

-- a bit that is set stands before the length
set-within : (words : List ℕ) (count i : ℕ) → IsTidy words count → bit_in words i ≡ true → i < count
set-within words count i tidy set =
    ⊎_elim (λ (early : i < count). early) (λ (late : count ≤ i). absurd (both_ways (bit_in words i) (tidy.past i late) set)) (cases_lt i count)

-- a row has a bit that is set exactly where it has a word that is not 0
pub row-any : (words : List ℕ) (count : ℕ) → IsTidy words count → ((k : ℕ) → get_or words k 0 < 2 ^ 64) → list_any is_set words ≡ list_any (λ b. b) (bits words count)
row-any words count tidy fits = same_from_decides (list_any is_set words) (list_any (λ b. b) (bits words count)) (forth, back) (λ h. h, λ h. h)
  where
    forth : list_any is_set words ≡ true → list_any (λ b. b) (bits words count) ≡ true
    forth h =
        let some = Any-from_list_any is_set words h in
        let k : ℕ = some.0 in
        let word : ℕ = get_or words k 0 in
        let same : word ≡ some.1 = get_or_default words k 0 some.1 some.2 ∙ some.3 in
        let low : ℕ = trailing_zeros w64 word in
        let lowest = bit_at-trailing_zeros w64 word (nonzero word (ap is_set same ∙ some.4)) (fits k) in
        let set : bit_in words (64 * k + low) ≡ true = bit_in-at words k low lowest.0 ∙ ap (λ (n : ℕ). nat_eq n 1) lowest.1 in
        let inside : 64 * k + low < count = set-within words count (64 * k + low) tidy set in
        let found : get_or (bits words count) (64 * k + low) true ≡ true = get_or-bits words count (64 * k + low) true inside ∙ set in
        list_any-from_Any (λ b. b) (bits words count) (64 * k + low, true, omega (arith, length-bits words count), found, refl)

    back : list_any (λ b. b) (bits words count) ≡ true → list_any is_set words ≡ true
    back h =
        let some = Any-from_list_any (λ b. b) (bits words count) h in
        let at : ℕ = some.0 in
        let inside : at < count = omega (arith, some.2, length-bits words count) in
        let set : bit_in words at ≡ true = sym (get_or-bits words count at some.1 inside) ∙ some.3 ∙ some.4 in
        let word : ℕ = get_or words (at / 64) 0 in
        let within : at / 64 < length words = omega (arith, inside, tidy.enough) in
        list_any-from_Any is_set words (at / 64, word, within, get_or_default words (at / 64) word 0 within, set-by-bit word (at % 64) set)
