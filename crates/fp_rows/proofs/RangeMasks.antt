-- A range of bits, word by word.
use Rattle.std.proofs.Common.{◌≡◌, ℕ, ◌+◌, ◌-◌, ◌*◌, ◌/◌, ◌%◌, ◌<◌, ◌≤◌, ◌≢◌, ◌^◌, Bool, true, false, ◌&&◌, cond, min, List, length, get_or, set, ⊎_elim, refl, sym, ap, ◌∙◌, arith}
use Rattle.std.specs.Prelude.{nat_le, nat_lt, bit_and}
use Rattle.std.specs.Int.{bit_at, bit_not, w64}
use Rattle.std.proofs.Math.Pow.{pow_mono}
use Rattle.std.proofs.lemmas.Bool.{cases_lt, cases_eq, le-leb, lt-leb, lt-ltb, le-ltb}
use Rattle.std.proofs.Math.Bool.{and-false}
use Rattle.std.proofs.lemmas.List.{length-set}
use Rattle.std.proofs.lemmas.Nat.{pow_pos}
use Rattle.std.proofs.lemmas.Nat.Bits.{bit_at_and, bit_at_not, bit_at_ones, bit_at_ones_above}
use Rattle.fp_rows.specs.Words.{bit_in, is_within}
use Rattle.fp_rows.proofs.OneBit.{has_bit}
use Rattle.fp_rows.proofs.BitsIn.{bit_in-set_same, bit_in-set_other}

-- the ones below one place without those below another
mask-bit : (low high i : ℕ) → low ≤ 64 → i < 64 → bit_at (bit_and (2 ^ high - 1) (bit_not w64 (2 ^ low - 1))) i ≡ cond (is_within low high i) 1 0
mask-bit low high i h k =
    let fits : 2 ^ low - 1 < 2 ^ 64 = omega (arith, pow_mono {i = low} {j = 64} h, pow_pos low) in
    let parts = bit_at_and (2 ^ high - 1) (bit_not w64 (2 ^ low - 1)) i in
    let other = bit_at_not w64 (2 ^ low - 1) i fits k in
    ⊎_elim
    (λ (early : i < low). rw (lt-leb low i early) (omega (arith, parts, other, bit_at_ones low i early)))
    (λ (from : low ≤ i).
    ⊎_elim
    (λ (inside : i < high). rw (le-leb low i from, lt-ltb i high inside) (omega (arith, parts, other, bit_at_ones_above low i from, bit_at_ones high i inside)))
    (λ (late : high ≤ i). rw (le-leb low i from, le-ltb i high late) (omega (arith, parts, other, bit_at_ones_above high i late)))
    (cases_lt i high))
    (cases_lt i low)

-- a place of a word lies in a range of all bits where it lies in the part of the range that the
-- word has
within-word : (from to word i : ℕ) → i < 64 → is_within (min (from - 64 * word) 64) (min (to - 64 * word) 64) i ≡ is_within from to (64 * word + i)
within-word from to word i h = ap (λ (b : Bool). b && nat_lt i (min (to - 64 * word) 64)) starts ∙ ap (λ (b : Bool). nat_le from (64 * word + i) && b) ends
  where
    starts : nat_le (min (from - 64 * word) 64) i ≡ nat_le from (64 * word + i)
    starts =
        ⊎_elim
        (λ (late : 64 * word + i < from). lt-leb (min (from - 64 * word) 64) i (omega arith) ∙ sym (lt-leb from (64 * word + i) late))
        (λ (early : from ≤ 64 * word + i). le-leb (min (from - 64 * word) 64) i (omega arith) ∙ sym (le-leb from (64 * word + i) early))
        (cases_lt (64 * word + i) from)

    ends : nat_lt i (min (to - 64 * word) 64) ≡ nat_lt (64 * word + i) to
    ends =
        ⊎_elim
        (λ (inside : 64 * word + i < to). lt-ltb i (min (to - 64 * word) 64) (omega arith) ∙ sym (lt-ltb (64 * word + i) to inside))
        (λ (past : to ≤ 64 * word + i). le-ltb i (min (to - 64 * word) 64) (omega arith) ∙ sym (le-ltb (64 * word + i) to past))
        (cases_lt (64 * word + i) to)

-- the mask of a word has the bits of the range
pub mask-within : (from to word i : ℕ) → i < 64 →
    bit_at (bit_and (2 ^ min (to - 64 * word) 64 - 1) (bit_not w64 (2 ^ min (from - 64 * word) 64 - 1))) i ≡ cond (is_within from to (64 * word + i)) 1 0
mask-within from to word i h =
    mask-bit (min (from - 64 * word) 64) (min (to - 64 * word) 64) i (omega arith) h ∙ ap (λ (b : Bool). cond b 1 0) (within-word from to word i h)

-- a bit that is 1 exactly where a test passes
pub has_bit-cond : (mask i : ℕ) (test : Bool) → bit_at mask i ≡ cond test 1 0 → has_bit mask i ≡ test
has_bit-cond mask i true e = rw e refl
has_bit-cond mask i false e = rw e refl

-- a bit of one word, as a bit of all
pub bit_in-at : (words : List ℕ) (k j : ℕ) → j < 64 → bit_in words (64 * k + j) ≡ has_bit (get_or words k 0) j
bit_in-at words k j h =
    let place : (64 * k + j) / 64 ≡ k = omega arith in
    let rest : (64 * k + j) % 64 ≡ j = omega arith in
    ap (λ (n : ℕ). has_bit (get_or words n 0) ((64 * k + j) % 64)) place ∙ ap (λ (n : ℕ). has_bit (get_or words k 0) n) rest

-- the bits of the first n words are changed within a range, by a function of the old bit and of
-- whether it lies within, and the others are as they were
pub record Changes (g : Bool → Bool → Bool) (from to : ℕ) (old now : List ℕ) (n : ℕ) : Type 0 where
  pub long : length now ≡ length old
  pub done : (i : ℕ) → i < 64 * n → bit_in now i ≡ g (bit_in old i) (is_within from to i)
  pub left : (i : ℕ) → 64 * n ≤ i → bit_in now i ≡ bit_in old i

-- after the range nothing changes
pub after-range : (from to i : ℕ) → to ≤ i → is_within from to i ≡ false
after-range from to i h = rw (le-ltb i to h) (and-false (nat_le from i))

-- one more word
pub changes-more : (g : Bool → Bool → Bool) (from to : ℕ) (old now : List ℕ) (n v : ℕ) → Changes g from to old now n → n < length old →
    ((j : ℕ) → j < 64 → has_bit v j ≡ g (has_bit (get_or now n 0) j) (is_within from to (64 * n + j))) → Changes g from to old (set now n v) (n + 1)
changes-more g from to old now n v c room made = record {
  long = length-set now n v ∙ c.long;
  done = λ i h.
      ⊎_elim
      (λ (here : i / 64 ≡ n).
      let at : 64 * n + i % 64 ≡ i = omega arith in
      let was : has_bit (get_or now n 0) (i % 64) ≡ bit_in old i = ap (λ (k : ℕ). has_bit (get_or now k 0) (i % 64)) (sym here) ∙ c.left i (omega arith) in
      bit_in-set_same now n v i (omega (arith, c.long)) here ∙ made (i % 64) (omega arith) ∙ ap (λ (b : Bool). g b (is_within from to (64 * n + i % 64))) was ∙
      ap (λ (k : ℕ). g (bit_in old i) (is_within from to k)) at)
      (λ (other : i / 64 ≢ n). bit_in-set_other now n v i other ∙ c.done i (omega arith))
      (cases_eq (i / 64) n);
  left = λ i h. let other : i / 64 ≢ n = omega arith in bit_in-set_other now n v i other ∙ c.left i (omega arith);
}
