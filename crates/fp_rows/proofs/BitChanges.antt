-- What the calls on a row do to its bits, from what they do to its words.
use Rattle.std.proofs.Common.{◌≡◌, ℕ, ◌+◌, ◌-◌, ◌/◌, ◌%◌, ◌<◌, ◌≤◌, ◌≢◌, ◌^◌, Bool, true, false, ◌&&◌, List, ◌++◌, length, get_or, set, take, drop, replicate, ⊎_elim, refl, sym, ap, ◌∙◌, arith}
use Rattle.std.specs.Prelude.{nat_eq, ◌==◌, not, bit_and, if◌then◌else◌}
use Rattle.std.specs.Int.{bit_at, bit_not, w64}
use Rattle.std.specs.Simd.Lanes.{zip2}
use Rattle.std.proofs.lemmas.Bool.{cases_lt, cases_eq, le-leb, lt-leb, lt-ltb, le-ltb, eq-eqb, ne_eqb}
use Rattle.std.proofs.lemmas.List.{length-append, length-drop, length-replicate, length-set, get_or-replicate, get_or_append_left, get_or-append_right, get_or-take, get_or-drop, get_or-set_same, get_or-set_other, get_or_past, length-take-le}
use Rattle.std.proofs.lemmas.Nat.Bits.{bit_at-zero}
use Rattle.fp_rows.specs.Words.{bit_in, bits, is_within, IsTidy, without}
use Rattle.fp_rows.specs.Bits.{with_range}
use Rattle.fp_rows.proofs.OneBit.{has_bit, has_bit-and, has_bit-not}
use Rattle.fp_rows.proofs.BitsIn.{length-bits, get_or-bits, bits-are, bit_in-zip2, bit_in-set_same, bit_in-set_other}
use Rattle.fp_rows.proofs.RangeMasks.{after-range}

length-with_range : (bs : List Bool) (from to : ℕ) (value : Bool) → from ≤ to → to ≤ length bs → length (with_range bs from to value) ≡ length bs
length-with_range bs from to value order within =
    omega (
      arith,
      length-append (take from bs) (replicate (to - from) value ++ drop to bs),
      length-append (replicate (to - from) value) (drop to bs),
      length-take-le from bs (omega arith),
      length-replicate (to - from) value,
      length-drop to bs,
    )

-- a bit before, in and after the range
get_or-with_range : (bs : List Bool) (from to i : ℕ) (value d : Bool) → from ≤ to → to ≤ length bs → get_or (with_range bs from to value) i d ≡ (if is_within from to i then value else get_or bs i d)
get_or-with_range bs from to i value d order within =
    ⊎_elim
    (λ (early : i < from). rw (lt-leb from i early) (get_or_append_left (take from bs) (replicate (to - from) value ++ drop to bs) d i (omega (arith, front)) ∙ get_or-take from bs i d early))
    (λ (late : from ≤ i).
    get_or-append_right (take from bs) (replicate (to - from) value ++ drop to bs) from i d front late ∙
    ⊎_elim
    (λ (inside : i < to).
    rw (le-leb from i late, lt-ltb i to inside)
    (get_or_append_left (replicate (to - from) value) (drop to bs) d (i - from) (omega (arith, middle)) ∙ get_or-replicate (to - from) (i - from) value d (omega arith)))
    (λ (past : to ≤ i).
    let at : to + (i - from - (to - from)) ≡ i = omega arith in
    rw (le-leb from i late, le-ltb i to past)
    (get_or-append_right (replicate (to - from) value) (drop to bs) (to - from) (i - from) d middle (omega arith) ∙ get_or-drop to bs (i - from - (to - from)) d ∙ ap (λ (k : ℕ). get_or bs k d) at))
    (cases_lt i to))
    (cases_lt i from)
  where
    front : length (take from bs) ≡ from
    front = length-take-le from bs (omega arith)

    middle : length (replicate (to - from) value) ≡ to - from
    middle = length-replicate (to - from) value

-- the bits of words in which a range was changed
pub range-bits : (g : Bool → Bool → Bool) (old now : List ℕ) (count from to : ℕ) (value : Bool) → from ≤ to → to ≤ count → ((b : Bool) → g b true ≡ value) → ((b : Bool) → g b false ≡ b) →
    ((i : ℕ) → bit_in now i ≡ g (bit_in old i) (is_within from to i)) → bits now count ≡ with_range (bits old count) from to value
range-bits g old now count from to value order within makes keeps changed =
    bits-are now count (with_range (bits old count) from to value) (length-with_range (bits old count) from to value order inside ∙ length-bits old count)
    (λ i h.
    changed i ∙ by-test (bit_in old i) (is_within from to i) ∙
    ap (λ (b : Bool). if is_within from to i then value else b) (sym (get_or-bits old count i false h)) ∙ sym (get_or-with_range (bits old count) from to i value false order inside))
  where
    inside : to ≤ length (bits old count)
    inside = omega (arith, length-bits old count)

    by-test : (b t : Bool) → g b t ≡ (if t then value else b)
    by-test b true = makes b
    by-test b false = keeps b

-- no bit past the length is changed by a range before it
pub range-tidy : (g : Bool → Bool → Bool) (old now : List ℕ) (count from to : ℕ) → to ≤ count → ((b : Bool) → g b false ≡ b) →
    ((i : ℕ) → bit_in now i ≡ g (bit_in old i) (is_within from to i)) → length now ≡ length old → IsTidy old count → IsTidy now count
range-tidy g old now count from to within keeps changed long tidy = record {
  enough = long ∙ tidy.enough;
  past = λ i h. changed i ∙ ap (λ (b : Bool). g (bit_in old i) b) (after-range from to i (omega arith)) ∙ keeps (bit_in old i) ∙ tidy.past i h;
}

-- words whose bits are made of those of two rows are tidy where no bit comes of one that is false
pub pair-tidy : (g : Bool → Bool → Bool) (words now others : List ℕ) (count : ℕ) → ((b : Bool) → g false b ≡ false) → ((i : ℕ) → bit_in now i ≡ g (bit_in words i) (bit_in others i)) →
    length now ≡ length words → IsTidy words count → IsTidy now count
pair-tidy g words now others count none made long tidy = record {
  enough = long ∙ tidy.enough;
  past = λ i h. made i ∙ ap (λ (b : Bool). g b (bit_in others i)) (tidy.past i h) ∙ none (bit_in others i);
}

-- the words of two rows, one masked by the other
pub and-made : (words others : List ℕ) → length words ≡ length others → (i : ℕ) → bit_in (zip2 bit_and words others) i ≡ (bit_in words i && bit_in others i)
and-made words others same = bit_in-zip2 bit_and (λ a b. a && b) words others same refl (λ k j h. has_bit-and (get_or words k 0) (get_or others k 0) j)

pub and-not-made : (words others : List ℕ) → length words ≡ length others → ((k : ℕ) → get_or others k 0 < 2 ^ 64) → (i : ℕ) → bit_in (zip2 without words others) i ≡ (bit_in words i && not (bit_in others i))
and-not-made words others same fits =
    bit_in-zip2 without (λ a b. a && not b) words others same refl
    (λ k j h. has_bit-and (get_or words k 0) (bit_not w64 (get_or others k 0)) j ∙ ap (λ (b : Bool). has_bit (get_or words k 0) j && b) (has_bit-not (get_or others k 0) j (fits k) h))

-- one bit made another
pub set-bits : (words : List ℕ) (count at v : ℕ) (to : Bool) → at < count → IsTidy words count →
    ((j : ℕ) → j < 64 → bit_at v j ≡ (if j == at % 64 then (if to then 1 else 0) else bit_at (get_or words (at / 64) 0) j)) →
    (i : ℕ) → bit_in (set words (at / 64) v) i ≡ (if i == at then to else bit_in words i)
set-bits words count at v to h tidy made i =
    let room : at / 64 < length words = omega (arith, tidy.enough) in
    ⊎_elim
    (λ (here : i / 64 ≡ at / 64).
    let bit = made (i % 64) (omega arith) in
    bit_in-set_same words (at / 64) v i room here ∙
    ⊎_elim
    (λ (same : i ≡ at). let e : i % 64 ≡ at % 64 = ap (λ (n : ℕ). n % 64) same in rw (eq-eqb i at same) (truth to (bit_at v (i % 64)) (rw (eq-eqb (i % 64) (at % 64) e) at bit)))
    (λ (other : i ≢ at). let e : i % 64 ≢ at % 64 = λ f. other (omega arith) in
    rw (ne_eqb i at other) (ap (λ (n : ℕ). nat_eq n 1) (rw (ne_eqb (i % 64) (at % 64) e) at bit) ∙ ap (λ (k : ℕ). has_bit (get_or words k 0) (i % 64)) (sym here)))
    (cases_eq i at))
    (λ (far : i / 64 ≢ at / 64). let other : i ≢ at = λ f. far (ap (λ (n : ℕ). n / 64) f) in rw (ne_eqb i at other) (bit_in-set_other words (at / 64) v i far))
    (cases_eq (i / 64) (at / 64))
  where
    truth : (t : Bool) (n : ℕ) → n ≡ (if t then 1 else 0) → nat_eq n 1 ≡ t
    truth true n e = rw e refl
    truth false n e = rw e refl

pub set-is : (words now : List ℕ) (count at : ℕ) (to : Bool) → at < count → ((i : ℕ) → bit_in now i ≡ (if i == at then to else bit_in words i)) → bits now count ≡ set (bits words count) at to
set-is words now count at to h changed =
    bits-are now count (set (bits words count) at to) (length-set (bits words count) at to ∙ length-bits words count)
    (λ i k.
    changed i ∙
    ⊎_elim
    (λ (same : i ≡ at). rw (eq-eqb i at same, same) (sym (get_or-set_same (bits words count) at to false (omega (arith, length-bits words count)))))
    (λ (other : i ≢ at). rw (ne_eqb i at other) (sym (get_or-bits words count i false k) ∙ sym (get_or-set_other (bits words count) at i to false other)))
    (cases_eq i at))

pub set-tidy : (words now : List ℕ) (count at : ℕ) (to : Bool) → at < count → ((i : ℕ) → bit_in now i ≡ (if i == at then to else bit_in words i)) → length now ≡ length words → IsTidy words count → IsTidy now count
set-tidy words now count at to h changed long tidy = record {
  enough = long ∙ tidy.enough;
  past = λ i k. let other : i ≢ at = omega arith in changed i ∙ rw (ne_eqb i at other) (tidy.past i k);
}

-- words of 0 have no bit that is set
pub zero-bits : (m count : ℕ) → bits (replicate m 0) count ≡ replicate count false
zero-bits m count =
    bits-are (replicate m 0) count (replicate count false) (length-replicate count false)
    (λ i h. zero-bit i ∙ sym (get_or-replicate count i false false h))
  where
    zero-bit : (i : ℕ) → bit_in (replicate m 0) i ≡ false
    zero-bit i =
        let none : get_or (replicate m 0) (i / 64) 0 ≡ 0 =
        ⊎_elim (λ (within : i / 64 < m). get_or-replicate m (i / 64) 0 0 within) (λ (past : m ≤ i / 64). get_or_past (replicate m 0) (i / 64) 0 (omega (arith, length-replicate {A = ℕ} m 0))) (cases_lt (i / 64) m) in
        ap (λ (w : ℕ). has_bit w (i % 64)) none ∙ ap (λ (n : ℕ). nat_eq n 1) (bit_at-zero (i % 64))
