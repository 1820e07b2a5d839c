-- Sums over the numbers below a bound: of two functions, the other way round, of what a test keeps,
-- and of what a list has for each number.
use Rattle.std.proofs.Common.{◌≡◌, ℕ, zero, suc, ◌+◌, ◌<◌, true, false, List, [], ◌∷◌, refl, sym, ◌∙◌, arith, ⊎_elim}
use Rattle.std.specs.Prelude.{◌==◌, nat_lt, sum_by, All, if◌then◌else◌}
use Rattle.std.proofs.lemmas.Bool.{cases_Bool, cond-false, cond-true, eq-eqb, lt-ltb, ltb-false, ltb-true, ne_eqb}
use Rattle.std.proofs.lemmas.List.Sums.{sum_by-cons}
use Rattle.std.proofs.lemmas.List.Elements.{recursion_from_All}
use Rattle.fp_base_lists.specs.Below.{sum_below}
use Rattle.fp_base_lists.proofs.Elements.{AllByRecursion-weaker}
use Rattle.fp_base_lists.proofs.Sums.{sum_by-same_each}
use Rattle.fp_base_lists.proofs.SumsBelow.{sum_below-changed, sum_below-same, sum_below-zero}

-- the sum of two functions
pub sum_below-both : (n : ℕ) (f g : ℕ → ℕ) → sum_below n (λ i. f i + g i) ≡ sum_below n f + sum_below n g
sum_below-both zero f g = refl
sum_below-both (suc n) f g = omega (arith, sum_below-both n f g)

-- a function that is 0 below the bound adds up to nothing
pub sum_below-none : (n : ℕ) (f : ℕ → ℕ) → ((i : ℕ) → i < n → f i ≡ 0) → sum_below n f ≡ 0
sum_below-none n f none = sum_below-same n f (λ i. 0) none ∙ sum_below-zero n

-- a double sum, the other way round
pub sum_below-swap : (n m : ℕ) (h : ℕ → ℕ → ℕ) → sum_below n (λ i. sum_below m (λ j. h i j)) ≡ sum_below m (λ j. sum_below n (λ i. h i j))
sum_below-swap zero m h = sym (sum_below-zero m)
sum_below-swap (suc n) m h = omega (arith, sum_below-swap n m h, sum_below-both m (h n) (λ j. sum_below n (λ i. h i j)))

-- one number that adds something
sum_below-one : (n k c : ℕ) → sum_below n (λ i. if k == i then c else 0) ≡ (if nat_lt k n then c else 0)
sum_below-one n k c =
    ⊎_elim
    (λ (inside : nat_lt k n ≡ true).
    sum_below-changed n k (λ i. 0) (λ i. if k == i then c else 0) (ltb-true k n inside)
    (λ i h apart. cond-false (k == i) c 0 (ne_eqb k i (λ e. apart (sym e)))) refl
    ∙ (let rest : sum_below n (λ (i : ℕ). 0) ≡ 0 = sum_below-zero n in
    omega (arith, rest, cond-true (k == k) c 0 (eq-eqb k k refl), cond-true (nat_lt k n) c 0 inside)))
    (λ (outside : nat_lt k n ≡ false).
    sum_below-none n (λ i. if k == i then c else 0) (λ i h.
    cond-false (k == i) c 0 (ne_eqb k i (λ e. omega (arith, e, h, ltb-false k n outside))))
    ∙ sym (cond-false (nat_lt k n) c 0 outside))
    (cases_Bool (nat_lt k n))

-- what the elements of a list give, number by number: those with a number below the bound give it
sum_below-gathered : {X : Type 0} (key count : X → ℕ) (n : ℕ) (xs : List X) →
    sum_below n (λ m. sum_by (λ x. if key x == m then count x else 0) xs) ≡ sum_by (λ x. if nat_lt (key x) n then count x else 0) xs
sum_below-gathered key count n [] = sum_below-zero n
sum_below-gathered {X} key count n (x ∷ xs) =
    let one : ℕ → ℕ = λ m. if key x == m then count x else 0 in
    let rest : ℕ → ℕ = λ m. sum_by (λ y. if key y == m then count y else 0) xs in
    let each : sum_below n (λ m. sum_by (λ y. if key y == m then count y else 0) (x ∷ xs)) ≡ sum_below n (λ m. one m + rest m) =
    sum_below-same n (λ m. sum_by (λ y. if key y == m then count y else 0) (x ∷ xs)) (λ m. one m + rest m)
    (λ m h. sum_by-cons (λ y. if key y == m then count y else 0) x xs) in
    omega (
      arith,
      each,
      sum_below-both n one rest,
      sum_below-one n (key x) (count x),
      sum_below-gathered key count n xs,
      sum_by-cons (λ y. if nat_lt (key y) n then count y else 0) x xs,
    )

-- a sum over a list of sums, the other way round
pub sum_by-sum_below : {X : Type 0} (n : ℕ) (h : X → ℕ → ℕ) (xs : List X) → sum_by (λ x. sum_below n (h x)) xs ≡ sum_below n (λ m. sum_by (λ x. h x m) xs)
sum_by-sum_below n h [] = sym (sum_below-zero n)
sum_by-sum_below {X} n h (x ∷ xs) =
    let rest : ℕ → ℕ = λ m. sum_by (λ y. h y m) xs in
    let each : sum_below n (λ m. sum_by (λ y. h y m) (x ∷ xs)) ≡ sum_below n (λ m. h x m + rest m) =
    sum_below-same n (λ m. sum_by (λ y. h y m) (x ∷ xs)) (λ m. h x m + rest m) (λ m lt. sum_by-cons (λ y. h y m) x xs) in
    omega (arith, each, sum_below-both n (h x) rest, sum_by-sum_below n h xs, sum_by-cons (λ y. sum_below n (h y)) x xs)

-- where each element has a number below the bound, all give
pub sum_below-gathered_all : {X : Type 0} (key count : X → ℕ) (n : ℕ) (xs : List X) → All (λ x. key x < n) xs →
    sum_below n (λ m. sum_by (λ x. if key x == m then count x else 0) xs) ≡ sum_by count xs
sum_below-gathered_all {X} key count n xs below =
    sum_below-gathered key count n xs
    ∙ sum_by-same_each (λ x. if nat_lt (key x) n then count x else 0) count xs
    (AllByRecursion-weaker (λ x. key x < n) (λ x. (if nat_lt (key x) n then count x else 0) ≡ count x)
    (λ x h. cond-true (nat_lt (key x) n) (count x) 0 (lt-ltb (key x) n h)) xs
    (recursion_from_All (λ x. key x < n) xs below))
