-- Bits that are set at some of the numbers from one up to and without another.
use Rattle.std.proofs.Common.{◌≡◌, ℕ, ◌+◌, ◌<◌, ◌≤◌, Bool, true, false, ◌||◌, List, length, get_or, set, ⊎_elim, sym, ap, ◌∙◌, arith}
use Rattle.std.specs.Prelude.{◌&&◌, Option, Some, None, MatchOption}
use Rattle.std.specs.Option.{is_some}
use Rattle.std.proofs.lemmas.Bool.{and_from, and_left, and_right, cases_eq, or_right}
use Rattle.std.proofs.lemmas.List.{get_or-set_other, get_or-set_same}
use Rattle.fp_prices_spans.proofs.Between.{between, between-from, between-none, between-other}

-- the bits of a row are those of an older one, and those of the numbers from one up to and without another that pass a test
abbrev pub AreMarked : (old row : List Bool) → (first k count : ℕ) → (ℕ → Bool) → Type 0
AreMarked old row first k count free = (n : ℕ) → n < count → get_or row n false ≡ (get_or old n false || (between first k n && free n))

or_false : (b c : Bool) → c ≡ false → (b || c) ≡ b
or_false true c e = e_true
  where
    e_true : (true || c) ≡ true
    e_true = cc
or_false false c e = e

pub marked-none : (old : List Bool) (first count : ℕ) (free : ℕ → Bool) → AreMarked old old first first count free
marked-none old first count free n within = sym (or_false (get_or old n false) (between first first n && free n) (and_left (between first first n) (free n) (between-none first n)))

module _ (old row : List Bool) (first k count : ℕ) (free : ℕ → Bool) (from : first ≤ k) (so_far : AreMarked old row first k count free) where
  -- the next one passes, and its bit is set
  pub marked-set : k < length row → free k ≡ true → AreMarked old (set row k true) first (k + 1) count free
  marked-set inside passes n within =
      ⊎_elim
      (λ (here : n ≡ k).
      ap (λ (m : ℕ). get_or (set row k true) m false) here ∙ get_or-set_same row k true false inside
      ∙ sym (or_right (get_or old n false) (between first (k + 1) n && free n) (and_from (between first (k + 1) n) (free n) (between-from first (k + 1) n (omega (arith, here, from)) (omega (arith, here))) (ap free here ∙ passes))))
      (λ (other : n ≡ k → ⊥).
      get_or-set_other row k n true false other ∙ so_far n within ∙ ap (λ (b : Bool). get_or old n false || (b && free n)) (sym (between-other first k n other)))
      (cases_eq n k)

  -- it doesn't pass
  pub marked-skip : free k ≡ false → AreMarked old row first (k + 1) count free
  marked-skip fails n within =
      ⊎_elim
      (λ (here : n ≡ k).
      so_far n within ∙ or_false (get_or old n false) (between first k n && free n) (and_right (between first k n) (free n) (ap free here ∙ fails))
      ∙ sym (or_false (get_or old n false) (between first (k + 1) n && free n) (and_right (between first (k + 1) n) (free n) (ap free here ∙ fails))))
      (λ (other : n ≡ k → ⊥). so_far n within ∙ ap (λ (b : Bool). get_or old n false || (b && free n)) (sym (between-other first k n other)))
      (cases_eq n k)

-- what is told of a load tells whether there is one
pub load-told : (o : Option ℕ) (b : Bool) (Q : ℕ → Type 0) → MatchOption o (b ≡ false) (λ size. (b ≡ true) × Q size) → is_some o ≡ b
load-told None b Q told = sym told
load-told (Some size) b Q told = sym told.0
