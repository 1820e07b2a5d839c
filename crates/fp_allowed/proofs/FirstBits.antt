-- The first bit of a row, from a place on, that is set.
use Rattle.std.proofs.Common.{◌≡◌, ℕ, ◌+◌, ◌-◌, ◌<◌, ◌≤◌, Bool, true, false, List, length, drop, ⊎_elim, sym, ap, ◌∙◌, subst, arith, length-drop}
use Rattle.std.specs.Prelude.{option_map, nat_lt, Option, Some, None, MatchOption}
use Rattle.std.specs.List.{position_or_len}
use Rattle.std.proofs.lemmas.Bool.{cases_lt, cond-false, cond-true, le-ltb, lt-ltb}
use Rattle.std.proofs.lemmas.List.{get_or-drop, get_or_past}
use Rattle.std.proofs.lemmas.List.Sums.{fails_before_first, passes_at_first}
use Rattle.fp_rows.specs.Bits.{first_true_from}
use Rattle.fp_allowed.specs.Bits.{bit_of}
use Rattle.fp_allowed.specs.Leaving.{IsFirstSet}

module _ (row : List Bool) (at : ℕ) where
  abbrev rest : List Bool
  rest = drop at row

  abbrev place : ℕ
  place = position_or_len (λ b. b) (drop at row)

  -- a bit from the place on, as one of those that are left
  bit_left : (n : ℕ) → at ≤ n → bit_of (drop at row) (n - at) ≡ bit_of row n
  bit_left n after = get_or-drop at row (n - at) false ∙ ap (bit_of row) (let e : at + (n - at) ≡ n = omega arith in e)

  -- what is known of the first one, or that there is none
  pub first_tells : (o : Option ℕ) → o ≡ first_true_from row at →
      MatchOption o ((n : ℕ) → at ≤ n → bit_of row n ≡ false)
      (λ first. (at ≤ first) × (first < length row) × (bit_of row first ≡ true) × ((n : ℕ) → at ≤ n → n < first → bit_of row n ≡ false))
  first_tells o is =
      let Tells : Option ℕ → Type 0 =
      λ x. MatchOption x ((n : ℕ) → at ≤ n → bit_of row n ≡ false)
      (λ first. (at ≤ first) × (first < length row) × (bit_of row first ≡ true) × ((n : ℕ) → at ≤ n → n < first → bit_of row n ≡ false)) in
      ⊎_elim
      (λ (some : place < length rest).
      let found : o ≡ Some (at + place) = is ∙ ap (option_map (λ k. at + k)) (cond-true (nat_lt place (length rest)) (Some place) None (lt-ltb place (length rest) some)) in
      subst Tells (sym found) (
        omega arith,
        omega (arith, some, length-drop at row),
        sym (bit_left (at + place) (omega arith)) ∙ ap (bit_of rest) (let e : at + place - at ≡ place = omega arith in e) ∙ passes_at_first (λ b. b) rest false some,
        λ n after before. sym (bit_left n after) ∙ fails_before_first (λ b. b) rest (n - at) false (omega arith),
      ))
      (λ (none : length rest ≤ place).
      let found : o ≡ None = is ∙ ap (option_map (λ k. at + k)) (cond-false (nat_lt place (length rest)) (Some place) None (le-ltb place (length rest) none)) in
      subst Tells (sym found)
      (λ n after.
      ⊎_elim
      (λ (inside : n - at < length rest). sym (bit_left n after) ∙ fails_before_first (λ b. b) rest (n - at) false (omega arith))
      (λ (past : length rest ≤ n - at). sym (bit_left n after) ∙ get_or_past rest (n - at) false past)
      (cases_lt (n - at) (length rest))))
      (cases_lt place (length rest))

-- the first in a range
pub first_set_some : (row : List Bool) (from to first : ℕ) → Some first ≡ first_true_from row from → first < to → IsFirstSet row from to (Some first)
first_set_some row from to first is before = let tells = first_tells row from (Some first) is in (tells.0, before, tells.2, tells.3)

-- or none, where it is past the range, or there is none at all
pub first_set_late : (row : List Bool) (from to first : ℕ) → Some first ≡ first_true_from row from → to ≤ first → IsFirstSet row from to None
first_set_late row from to first is late = let tells = first_tells row from (Some first) is in λ n after before. tells.3 n after (omega arith)

pub first_set_none : (row : List Bool) (from to : ℕ) → None ≡ first_true_from row from → IsFirstSet row from to None
first_set_none row from to is = let tells = first_tells row from None is in λ n after before. tells n after
