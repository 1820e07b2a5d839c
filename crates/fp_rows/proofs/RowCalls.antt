-- A call on a row writes its words through a slice of them: what the row then is.
use Rattle.std.proofs.Common.{◌≡◌, ℕ, ◌*◌, ◌≤◌, Bool, true, false, List, ◌++◌, length, take, drop, sym, ap, ◌∙◌, subst, arith}
use Rattle.std.specs.Simd.Lanes.{zip2}
use Rattle.std.proofs.lemmas.List.{take_at}
use Rattle.fp_rows.specs.Words.{bit_in, bits, is_within, IsTidy}
use Rattle.fp_rows.specs.Bits.{with_range}
use Rattle.fp_rows.proofs.BitsIn.{length-bits, bits-pair}
use Rattle.fp_rows.proofs.BitChanges.{range-bits, range-tidy, pair-tidy}

-- the slice is that of the items, and as long when it comes back
pub record Writes (words now items : List ℕ) (len : ℕ) : Type 0 where
  pub was : words ≡ items
  pub long : length now ≡ length words
  pub room : length words ≡ len

-- the items that were written
abbrev pub written : List ℕ → List ℕ → ℕ → List ℕ
written now items len = take len (now ++ drop (length now) items)

written-is : (words now items : List ℕ) (len : ℕ) → Writes words now items len → written now items len ≡ now
written-is words now items len w = take_at now (drop (length now) items) len (w.long ∙ w.room)

-- what a call leaves: a row of the same number of bits, with these bits
pub record Leaves (words : List ℕ) (count : ℕ) (row : List Bool) : Type 0 where
  pub tidy : IsTidy words count
  pub seen : bits words count ≡ row

-- a range was changed
pub range-row : (g : Bool → Bool → Bool) (words now items : List ℕ) (len count from to : ℕ) (value : Bool) (row : List Bool) →
    Writes words now items len → IsTidy items count → bits items count ≡ row → from ≤ to → to ≤ length row → ((b : Bool) → g b true ≡ value) → ((b : Bool) → g b false ≡ b) →
    ((i : ℕ) → bit_in now i ≡ g (bit_in words i) (is_within from to i)) → Leaves (written now items len) count (with_range row from to value)
range-row g words now items len count from to value row w tidy seen order within makes keeps changed =
    let inside : to ≤ count = omega (arith, length-bits items count, ap length seen) in
    let old : (i : ℕ) → bit_in now i ≡ g (bit_in items i) (is_within from to i) = subst (λ (ws : List ℕ). (i : ℕ) → bit_in now i ≡ g (bit_in ws i) (is_within from to i)) w.was changed in
    rw (written-is words now items len w) (record {
      tidy = range-tidy g items now count from to inside keeps old (w.long ∙ ap length w.was) tidy;
      seen = rw (sym seen) (range-bits g items now count from to value order inside makes keeps old);
    })

-- the place of the range stands in the words
pub range-room : (words items : List ℕ) (count to : ℕ) (row : List Bool) → words ≡ items → IsTidy items count → bits items count ≡ row → to ≤ length row → to ≤ 64 * length words
range-room words items count to row was tidy seen within =
    omega (arith, tidy.enough, ap length was, length-bits items count, ap length seen)

-- two rows of as many bits have as many words
pub same-words : (items others : List ℕ) (count more : ℕ) (row other : List Bool) → IsTidy items count → IsTidy others more → bits items count ≡ row → bits others more ≡ other → length row ≡ length other →
    (count ≡ more) × (length items ≡ length others)
same-words items others count more row other tidy tidier seen shown same =
    let counts : count ≡ more = omega (arith, length-bits items count, length-bits others more, ap length seen, ap length shown) in
    (counts, omega (arith, counts, tidy.enough, tidier.enough))

-- bits were changed by those of another row
pub pair-row : (g : Bool → Bool → Bool) (words now items others : List ℕ) (len count : ℕ) (row other : List Bool) →
    Writes words now items len → IsTidy items count → bits items count ≡ row → bits others count ≡ other → ((b : Bool) → g false b ≡ false) →
    ((i : ℕ) → bit_in now i ≡ g (bit_in words i) (bit_in others i)) → Leaves (written now items len) count (zip2 g row other)
pair-row g words now items others len count row other w tidy seen shown none changed =
    let old : (i : ℕ) → bit_in now i ≡ g (bit_in items i) (bit_in others i) = subst (λ (ws : List ℕ). (i : ℕ) → bit_in now i ≡ g (bit_in ws i) (bit_in others i)) w.was changed in
    rw (written-is words now items len w) (record {
      tidy = pair-tidy g items now others count none old (w.long ∙ ap length w.was) tidy;
      seen = rw (sym seen, sym shown) (bits-pair g items now others count old);
    })
