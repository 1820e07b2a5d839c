-- The bits of words, one after another.
use Rattle.std.proofs.Common.{◌≡◌, ℕ, ◌*◌, ◌/◌, ◌%◌, ◌<◌, ◌≤◌, ◌≢◌, Bool, false, List, length, get_or, set, ⊎_elim, sym, ap, ◌∙◌, arith}
use Rattle.std.specs.Prelude.{nat_eq}
use Rattle.std.specs.Int.{bit_at}
use Rattle.std.specs.Simd.Lanes.{zip2}
use Rattle.std.proofs.lemmas.Bool.{cases_lt}
use Rattle.std.proofs.lemmas.List.{get_or_past, ext_get_or, get_or-set_same, get_or-set_other}
use Rattle.std.proofs.lemmas.List.FromFn.{length-map-range_with_len, get_or-map-range_with_len}
use Rattle.std.proofs.lemmas.Simd.{length-zip2, get_or-zip2}
use Rattle.std.proofs.lemmas.Nat.Bits.{bit_at-zero}
use Rattle.fp_rows.specs.Words.{bit_in, bits}
use Rattle.fp_rows.proofs.OneBit.{has_bit}

pub length-bits : (words : List ℕ) (count : ℕ) → length (bits words count) ≡ count
length-bits words count = length-map-range_with_len (bit_in words) 0 count

pub get_or-bits : (words : List ℕ) (count i : ℕ) (d : Bool) → i < count → get_or (bits words count) i d ≡ bit_in words i
get_or-bits words count i d h = get_or-map-range_with_len (bit_in words) 0 count i i d h (omega arith)

-- the bits of words are a list where each bit is that of the list
pub bits-are : (words : List ℕ) (count : ℕ) (bs : List Bool) → length bs ≡ count → ((i : ℕ) → i < count → bit_in words i ≡ get_or bs i false) → bits words count ≡ bs
bits-are words count bs long same =
    ext_get_or false (bits words count) bs (length-bits words count ∙ sym long)
    (λ i h. let within : i < count = omega (arith, length-bits words count) in get_or-bits words count i false within ∙ same i within)

-- past the words no bit is set
bit_in-past : (words : List ℕ) (i : ℕ) → 64 * length words ≤ i → bit_in words i ≡ false
bit_in-past words i h =
    let none : get_or words (i / 64) 0 ≡ 0 = get_or_past words (i / 64) 0 (omega arith) in
    ap (λ (n : ℕ). nat_eq n 1) (ap (λ (w : ℕ). bit_at w (i % 64)) none ∙ bit_at-zero (i % 64))

-- where words are made word by word of two lists of them, their bits are made bit by bit
pub bit_in-zip2 : (f : ℕ → ℕ → ℕ) (g : Bool → Bool → Bool) (words others : List ℕ) → length words ≡ length others → g false false ≡ false →
    ((k j : ℕ) → j < 64 → has_bit (f (get_or words k 0) (get_or others k 0)) j ≡ g (has_bit (get_or words k 0) j) (has_bit (get_or others k 0) j)) →
    (i : ℕ) → bit_in (zip2 f words others) i ≡ g (bit_in words i) (bit_in others i)
bit_in-zip2 f g words others same none made i =
    ⊎_elim
    (λ (within : i / 64 < length words).
    ap (λ (w : ℕ). has_bit w (i % 64)) (get_or-zip2 f words others (i / 64) 0 0 0 within (omega (arith, same))) ∙ made (i / 64) (i % 64) (omega arith))
    (λ (past : length words ≤ i / 64).
    let long = length-zip2 f words others same in
    bit_in-past (zip2 f words others) i (omega (arith, long)) ∙ sym none ∙ ap (λ (b : Bool). g b false) (sym (bit_in-past words i (omega arith))) ∙
    ap (λ (b : Bool). g (bit_in words i) b) (sym (bit_in-past others i (omega (arith, same)))))
    (cases_lt (i / 64) (length words))

-- so the first bits are those of the two rows, bit by bit
pub bits-pair : (g : Bool → Bool → Bool) (words now others : List ℕ) (count : ℕ) → ((i : ℕ) → bit_in now i ≡ g (bit_in words i) (bit_in others i)) →
    bits now count ≡ zip2 g (bits words count) (bits others count)
bits-pair g words now others count made =
    bits-are now count (zip2 g (bits words count) (bits others count)) (length-zip2 g (bits words count) (bits others count) (length-bits words count ∙ sym (length-bits others count)) ∙ length-bits words count)
    (λ i h.
    made i ∙ ap (λ (b : Bool). g b (bit_in others i)) (sym (get_or-bits words count i false h)) ∙ ap (λ (b : Bool). g (get_or (bits words count) i false) b) (sym (get_or-bits others count i false h)) ∙
    sym (get_or-zip2 g (bits words count) (bits others count) i false false false (omega (arith, length-bits words count)) (omega (arith, length-bits others count))))

-- a written word changes its own bits alone
pub bit_in-set_same : (words : List ℕ) (k v i : ℕ) → k < length words → i / 64 ≡ k → bit_in (set words k v) i ≡ has_bit v (i % 64)
bit_in-set_same words k v i h here = ap (λ (w : ℕ). has_bit w (i % 64)) (ap (λ (n : ℕ). get_or (set words k v) n 0) here ∙ get_or-set_same words k v 0 h)

pub bit_in-set_other : (words : List ℕ) (k v i : ℕ) → i / 64 ≢ k → bit_in (set words k v) i ≡ bit_in words i
bit_in-set_other words k v i other = ap (λ (w : ℕ). has_bit w (i % 64)) (get_or-set_other words k (i / 64) v 0 other)
