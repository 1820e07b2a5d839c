-- The bits of a row after those of a range were made the same.
use Rattle.std.proofs.Common.{◌≡◌, ℕ, ◌+◌, ◌-◌, ◌<◌, ◌≤◌, Bool, false, cond, List, ◌++◌, length, take, drop, replicate, ⊎_elim, ap, ◌∙◌, arith, length-append, length-take, length-drop}
use Rattle.std.proofs.lemmas.Bool.{cases_lt, le-leb, lt-leb, lt-ltb, le-ltb}
use Rattle.std.proofs.lemmas.List.{get_or-append_right, get_or-drop, get_or-replicate, get_or-take, get_or_append_left, length-replicate}
use Rattle.fp_rows.specs.Bits.{with_range}
use Rattle.fp_allowed.specs.Bits.{bit_of}
use Rattle.fp_allowed.specs.Moments.{in_range}

module _ (bits : List Bool) (from to : ℕ) (value : Bool) (order : from ≤ to) (within : to ≤ length bits) where
  front : length (take from bits) ≡ from
  front = omega (arith, length-take from bits)

  pub length-with_range : length (with_range bits from to value) ≡ length bits
  length-with_range =
      omega (
        arith,
        length-append (take from bits) (replicate (to - from) value ++ drop to bits),
        length-append (replicate (to - from) value) (drop to bits),
        front,
        length-replicate (to - from) value,
        length-drop to bits,
      )

  -- what stands from the start of the range on
  from-start : (i : ℕ) → from ≤ i → bit_of (with_range bits from to value) i ≡ bit_of (replicate (to - from) value ++ drop to bits) (i - from)
  from-start i after = get_or-append_right (take from bits) (replicate (to - from) value ++ drop to bits) from i false front after

  -- a bit in the range is the value, and the others stay
  pub bit_of-with_range : (i : ℕ) → bit_of (with_range bits from to value) i ≡ cond (in_range from to i) value (bit_of bits i)
  bit_of-with_range i =
      ⊎_elim
      (λ (early : i < from).
      rw (lt-leb from i early) (get_or_append_left (take from bits) (replicate (to - from) value ++ drop to bits) false i (omega (arith, front)) ∙ get_or-take from bits i false early))
      (λ (after : from ≤ i).
      ⊎_elim
      (λ (here : i < to).
      rw (le-leb from i after, lt-ltb i to here)
      (from-start i after ∙ get_or_append_left (replicate (to - from) value) (drop to bits) false (i - from) (omega (arith, length-replicate (to - from) value)) ∙
      get_or-replicate (to - from) (i - from) value false (omega arith)))
      (λ (late : to ≤ i).
      rw (le-leb from i after, le-ltb i to late)
      (from-start i after ∙
      get_or-append_right (replicate (to - from) value) (drop to bits) (to - from) (i - from) false (length-replicate (to - from) value) (omega arith) ∙
      get_or-drop to bits (i - from - (to - from)) false ∙
      ap (bit_of bits) (let e : to + (i - from - (to - from)) ≡ i = omega arith in e)))
      (cases_lt i to))
      (cases_lt i from)
