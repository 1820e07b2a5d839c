-- Sums over distinct numbers, and how many of them there can be.
use Rattle.std.proofs.Common.{◌≡◌, ◌≢◌, ℕ, ◌<◌, ◌≤◌, true, false, cond, List, [], ◌∷◌, length, get_or, set, ⊎_elim, refl, sym, ap, subst, arith, length-set, get_or-set_other}
use Rattle.std.specs.Prelude.{sum_by, nat_eq}
use Rattle.std.specs.List.{AllByRecursion, list_any}
use Rattle.std.proofs.Math.Dec.{eqb}
use Rattle.std.proofs.lemmas.Bool.{cases_Bool, cond-false, cond-true, eqb-true, false≢true, ne_eqb, or_cases}
use Rattle.std.proofs.lemmas.Bool.Decides.{Decides-eqb}
use Rattle.std.proofs.lemmas.List.Sums.{sum_by-cons, sum_by-set}
use Rattle.std.proofs.lemmas.Map.Made.{IsDistinct-from_AllPairs}
use Rattle.std.proofs.lemmas.Map.Steps.{length-le_from_distinct_below}
use Rattle.fp_base_lists.specs.Distinct.{AreDistinct}
use Rattle.fp_base_lists.proofs.Distinct.{AreDistinct-head, AreDistinct-tail}
use Rattle.fp_base_lists.proofs.Elements.{AllByRecursion-weaker}
use Rattle.fp_base_lists.proofs.Sums.{sum_by-same_each}

-- what a test finds among numbers below a bound is below it
below-any : (bound : ℕ) (numbers : List ℕ) → AllByRecursion (λ n. n < bound) numbers → (q : ℕ) → list_any (eqb q) numbers ≡ true → q < bound
below-any bound [] all q any = absurd (false≢true any)
below-any bound (n ∷ numbers) all q any =
    ⊎_elim
    (λ (here : eqb q n ≡ true). subst (λ (m : ℕ). m < bound) (sym (eqb-true q n here)) all.0)
    (λ (later : list_any (eqb q) numbers ≡ true). below-any bound numbers all.1 q later)
    (or_cases (eqb q n) (list_any (eqb q) numbers) any)

-- distinct numbers below a bound are no more than the bound
pub length-distinct-le : (bound : ℕ) (numbers : List ℕ) → AllByRecursion (λ n. n < bound) numbers → AreDistinct numbers → length numbers ≤ bound
length-distinct-le bound numbers below distinct =
    length-le_from_distinct_below numbers bound (IsDistinct-from_AllPairs Decides-eqb numbers distinct) (below-any bound numbers below)

-- the values at distinct places sum to at most the whole sum, where an element of value 0 can take a place
pub sum_by-places-le : {X : Type 0} (g : X → ℕ) (d : X) → g d ≡ 0 → (places : List ℕ) (xs : List X) →
    AllByRecursion (λ i. i < length xs) places → AreDistinct places → sum_by (λ i. g (get_or xs i d)) places ≤ sum_by g xs
sum_by-places-le g d none [] xs below distinct = omega arith
sum_by-places-le {X} g d none (i ∷ places) xs below distinct =
    let ys : List X = set xs i d in
    let still : AllByRecursion (λ j. j < length ys) places =
    AllByRecursion-weaker (λ j. j < length xs) (λ j. j < length ys) (λ j h. simp length-set h) places below.1 in
    let rest : sum_by (λ j. g (get_or ys j d)) places ≤ sum_by g ys = sum_by-places-le g d none places ys still (AreDistinct-tail i places distinct) in
    let same : sum_by (λ j. g (get_or ys j d)) places ≡ sum_by (λ j. g (get_or xs j d)) places =
    sum_by-same_each (λ j. g (get_or ys j d)) (λ j. g (get_or xs j d)) places
    (AllByRecursion-weaker (λ j. j ≢ i) (λ j. g (get_or ys j d) ≡ g (get_or xs j d)) (λ j ne. ap g (rw get_or-set_other refl)) places
    (AreDistinct-head i places distinct)) in
    omega (arith, rest, same, none, sum_by-set g xs i d d below.0, sum_by-cons (λ j. g (get_or xs j d)) i places)

-- a value at one number counts for nothing among others
sum_by-elsewhere : (x n : ℕ) (numbers : List ℕ) → AllByRecursion (λ y. y ≢ x) numbers → sum_by (λ k. cond (nat_eq x k) n 0) numbers ≡ 0
sum_by-elsewhere x n [] others = refl
sum_by-elsewhere x n (k ∷ numbers) others =
    omega (
      arith,
      sum_by-elsewhere x n numbers others.1,
      sum_by-cons (λ j. cond (nat_eq x j) n 0) k numbers,
      cond-false (nat_eq x k) n 0 (ne_eqb x k (λ e. others.0 (sym e))),
    )

-- and at most once among distinct numbers
pub sum_by-one-le : (x n : ℕ) (numbers : List ℕ) → AreDistinct numbers → sum_by (λ k. cond (nat_eq x k) n 0) numbers ≤ n
sum_by-one-le x n [] distinct = omega arith
sum_by-one-le x n (k ∷ numbers) distinct =
    ⊎_elim
    (λ (same : nat_eq x k ≡ true).
    let here : k ≡ x = sym (eqb-true x k same) in
    let others : AllByRecursion (λ y. y ≢ x) numbers = subst (λ (z : ℕ). AllByRecursion (λ y. y ≢ z) numbers) here (AreDistinct-head k numbers distinct) in
    omega (arith, sum_by-cons (λ j. cond (nat_eq x j) n 0) k numbers, cond-true (nat_eq x k) n 0 same, sum_by-elsewhere x n numbers others))
    (λ (other : nat_eq x k ≡ false).
    omega (arith, sum_by-cons (λ j. cond (nat_eq x j) n 0) k numbers, cond-false (nat_eq x k) n 0 other, sum_by-one-le x n numbers (AreDistinct-tail k numbers distinct)))
    (cases_Bool (nat_eq x k))
