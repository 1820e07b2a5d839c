-- The first bit of a range that is set, word by word.
use Rattle.std.proofs.Common.{◌≡◌, ℕ, ◌+◌, ◌-◌, ◌*◌, ◌<◌, ◌≤◌, ◌^◌, Bool, true, false, ◌&&◌, cond, List, get_or, ⊎_elim, refl, sym, ap, ◌∙◌, arith}
use Rattle.std.specs.Prelude.{nat_eq, nat_le, nat_lt, bit_and, Some}
use Rattle.std.specs.Int.{bit_at, trailing_zeros, w64}
use Rattle.std.proofs.lemmas.Bool.{cases_lt, le-leb, lt-ltb, leb-true, ltb-true, and_parts}
use Rattle.std.proofs.Math.Bool.{and-true}
use Rattle.std.proofs.lemmas.Nat.Bits.{bit_at-trailing_zeros, bit_at-zero}
use Rattle.fp_rows.specs.Words.{bit_in, is_within, IsFirstWithin}
use Rattle.fp_rows.proofs.OneBit.{has_bit, has_bit-and}
use Rattle.fp_rows.proofs.RangeMasks.{bit_in-at, has_bit-cond}

-- no bit of a range is set before a place
abbrev pub NoneBefore : List ℕ → ℕ → ℕ → ℕ → Type 0
NoneBefore words from to end = (i : ℕ) → from ≤ i → i < to → i < end → bit_in words i ≡ false

-- what is left of a word under its mask
left-bit : (words : List ℕ) (from to word mask j : ℕ) → j < 64 → bit_at mask j ≡ cond (is_within from to (64 * word + j)) 1 0 →
    has_bit (bit_and (get_or words word 0) mask) j ≡ (bit_in words (64 * word + j) && is_within from to (64 * word + j))
left-bit words from to word mask j h masks =
    has_bit-and (get_or words word 0) mask j ∙ ap (λ (b : Bool). b && has_bit mask j) (sym (bit_in-at words word j h)) ∙
    ap (λ (b : Bool). bit_in words (64 * word + j) && b) (has_bit-cond mask j (is_within from to (64 * word + j)) masks)

-- the bits of a word before place n of which nothing is left
none-more : (words : List ℕ) (from to word mask n : ℕ) → n ≤ 64 → ((j : ℕ) → j < 64 → bit_at mask j ≡ cond (is_within from to (64 * word + j)) 1 0) →
    ((j : ℕ) → j < n → bit_at (bit_and (get_or words word 0) mask) j ≡ 0) → NoneBefore words from to (64 * word) → NoneBefore words from to (64 * word + n)
none-more words from to word mask n small masks none before i first last h =
    ⊎_elim (λ (early : i < 64 * word). before i first last early)
    (λ (here : 64 * word ≤ i).
    let j : ℕ = i - 64 * word in
    let at : 64 * word + j ≡ i = omega arith in
    let clear : has_bit (bit_and (get_or words word 0) mask) j ≡ false = ap (λ (n : ℕ). nat_eq n 1) (none j (omega arith)) in
    let left = sym (left-bit words from to word mask j (omega arith) (masks j (omega arith))) ∙ clear in
    let inside : is_within from to i ≡ true = rw (le-leb from i first, lt-ltb i to last) refl in
    sym (and-true (bit_in words i)) ∙ ap (λ (b : Bool). bit_in words i && b) (sym inside) ∙ rw at at left)
    (cases_lt i (64 * word))

-- the lowest bit that is left of a word
pub first-left : (words : List ℕ) (from to word mask : ℕ) → ((j : ℕ) → j < 64 → bit_at mask j ≡ cond (is_within from to (64 * word + j)) 1 0) → NoneBefore words from to (64 * word) →
    0 < bit_and (get_or words word 0) mask → bit_and (get_or words word 0) mask < 2 ^ 64 → IsFirstWithin (bit_in words) from to (Some (64 * word + trailing_zeros w64 (bit_and (get_or words word 0) mask)))
first-left words from to word mask masks before some fits =
    let left : ℕ = bit_and (get_or words word 0) mask in
    let low : ℕ = trailing_zeros w64 left in
    let lowest = bit_at-trailing_zeros w64 left some fits in
    let set : has_bit left low ≡ true = ap (λ (n : ℕ). nat_eq n 1) lowest.1 in
    let both = and_parts (bit_in words (64 * word + low)) (is_within from to (64 * word + low)) (sym (left-bit words from to word mask low lowest.0 (masks low lowest.0)) ∙ set) in
    let inside = and_parts (nat_le from (64 * word + low)) (nat_lt (64 * word + low) to) both.1 in
    let last : 64 * word + low < to = ltb-true (64 * word + low) to inside.1 in (
      leb-true from (64 * word + low) inside.0,
      last,
      both.0,
      λ i first h. none-more words from to word mask low (omega (arith, lowest.0)) masks lowest.2 before i first (omega (arith, last)) h,
    )

-- a word of which nothing is left
pub none-left : (words : List ℕ) (from to word mask : ℕ) → ((j : ℕ) → j < 64 → bit_at mask j ≡ cond (is_within from to (64 * word + j)) 1 0) → NoneBefore words from to (64 * word) →
    bit_and (get_or words word 0) mask ≡ 0 → NoneBefore words from to (64 * (word + 1))
none-left words from to word mask masks before none =
    let next : 64 * word + 64 ≡ 64 * (word + 1) = omega arith in
    λ i first last h. none-more words from to word mask 64 (omega arith) masks (λ j k. ap (λ (n : ℕ). bit_at n j) none ∙ bit_at-zero j) before i first last (omega arith)
