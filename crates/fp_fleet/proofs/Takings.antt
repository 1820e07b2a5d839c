-- Counts from which those of a list's elements are taken off, one after the other, by the number that
-- each element has.
use Rattle.std.proofs.Common.{◌≡◌, ℕ, ◌+◌, ◌-◌, ◌<◌, ◌≤◌, List, length, get_or, set, take, ⊎_elim, refl, sym, ap, ◌∙◌, arith, get_or-set_other, get_or-set_same}
use Rattle.std.specs.Prelude.{◌==◌, sum_by, if◌then◌else◌}
use Rattle.std.proofs.lemmas.Bool.{cases_eq, cond-false, cond-true, eq-eqb, ne_eqb}
use Rattle.std.proofs.lemmas.List.Sums.{sum_by_more, sum_by_more_le}

-- what elements of a number count
abbrev pub count_at : {X : Type 0} → (key count : X → ℕ) → List X → ℕ → ℕ
count_at key count xs m = sum_by (λ x. if key x == m then count x else 0) xs

-- each count is what is left and what was taken off
abbrev pub AreTaken : {X : Type 0} → (key count : X → ℕ) → List X → (initial left : List ℕ) → Type 0
AreTaken key count xs initial left = (m : ℕ) → m < length initial → get_or left m 0 + count_at key count xs m ≡ get_or initial m 0

-- one more element is taken off
pub AreTaken-more : {X : Type 0} (key count : X → ℕ) (xs : List X) (i : ℕ) (d : X) (initial old new : List ℕ) → i < length xs → length old ≡ length initial →
    key (get_or xs i d) < length old → count (get_or xs i d) ≤ get_or old (key (get_or xs i d)) 0 →
    new ≡ set old (key (get_or xs i d)) (get_or old (key (get_or xs i d)) 0 - count (get_or xs i d)) →
    AreTaken key count (take i xs) initial old → AreTaken key count (take (i + 1) xs) initial new
AreTaken-more key count xs i d initial old new lt long inside enough is taken = λ m within.
    let k : ℕ = key (get_or xs i d) in
    let n : ℕ = count (get_or xs i d) in
    let more : count_at key count (take (i + 1) xs) m ≡ count_at key count (take i xs) m + (if k == m then n else 0) =
    sum_by_more (λ x. if key x == m then count x else 0) xs i d lt in
    let there : get_or new m 0 ≡ get_or (set old k (get_or old k 0 - n)) m 0 = ap (λ (l : List ℕ). get_or l m 0) is in
    ⊎_elim
    (λ (same : m ≡ k).
    let one : (if k == m then n else 0) ≡ n = cond-true (k == m) n 0 (eq-eqb k m (sym same)) in
    let left : get_or (set old k (get_or old k 0 - n)) m 0 ≡ get_or old k 0 - n =
    ap (λ (j : ℕ). get_or (set old k (get_or old k 0 - n)) j 0) same ∙ get_or-set_same old k (get_or old k 0 - n) 0 inside in
    let was : get_or old m 0 ≡ get_or old k 0 = ap (λ (j : ℕ). get_or old j 0) same in
    omega (arith, more, there, one, left, was, taken m within, enough))
    (λ (other : m ≡ k → ⊥).
    let none : (if k == m then n else 0) ≡ 0 = cond-false (k == m) n 0 (ne_eqb k m (λ e. other (sym e))) in
    let left : get_or (set old k (get_or old k 0 - n)) m 0 ≡ get_or old m 0 = get_or-set_other old k m (get_or old k 0 - n) 0 other in
    omega (arith, more, there, none, left, taken m within))
    (cases_eq m k)

-- where all elements can be taken off, the next one can
pub enough-left : {X : Type 0} (key count : X → ℕ) (xs : List X) (i : ℕ) (d : X) (initial left : List ℕ) → i < length xs →
    key (get_or xs i d) < length initial → AreTaken key count (take i xs) initial left →
    ((m : ℕ) → m < length initial → count_at key count xs m ≤ get_or initial m 0) →
    count (get_or xs i d) ≤ get_or left (key (get_or xs i d)) 0
enough-left key count xs i d initial left lt inside taken fit =
    let k : ℕ = key (get_or xs i d) in
    omega (
      arith,
      fit k inside,
      taken k inside,
      sum_by_more_le (λ x. if key x == k then count x else 0) xs i d lt,
      cond-true (k == k) (count (get_or xs i d)) 0 (eq-eqb k k refl),
    )

-- all of a list is taken off
pub AreTaken-all : {X : Type 0} (key count : X → ℕ) (xs : List X) (initial left : List ℕ) → AreTaken key count xs initial left →
    (m : ℕ) → m < length initial → count_at key count xs m ≤ get_or initial m 0
AreTaken-all key count xs initial left taken = λ m lt. omega (arith, taken m lt)
