-- Sums that are less, and sums over numbers that pass a test.
use Rattle.std.proofs.Common.{◌≡◌, ℕ, zero, suc, ◌*◌, ◌<◌, ◌≤◌, Bool, true, false, List, [], ◌∷◌, length, refl, sym, ap, ◌∙◌, subst, arith, ⊎_elim}
use Rattle.std.specs.Prelude.{◌==◌, nat_lt, sum_by, All, if◌then◌else◌}
use Rattle.std.specs.List.{filter}
use Rattle.std.proofs.lemmas.Bool.{cases_Bool, cases_eq, cond-false, cond-true, eqb-true, ltb-false}
use Rattle.std.proofs.lemmas.List.Elements.{All-head, All-tail}
use Rattle.std.proofs.lemmas.List.Sums.{sum_by-cons}
use Rattle.fp_base_lists.specs.Below.{sum_below}
use Rattle.fp_base_lists.proofs.Sums.{sum_by-const, sum_by-same}
use Rattle.fp_base_lists.proofs.SumsBelow.{sum_below-same, sum_below-le}
use Rattle.fp_fleet.proofs.NumberSums.{sum_below-gathered_all}

-- a function that is nowhere greater and somewhere less has a smaller sum
pub sum_below-lt : (n : ℕ) (f g : ℕ → ℕ) (at : ℕ) → at < n → ((i : ℕ) → i < n → f i ≤ g i) → f at < g at → sum_below n f < sum_below n g
sum_below-lt zero f g at inside le lt = absurd (omega (arith, inside))
sum_below-lt (suc n) f g at inside le lt =
    ⊎_elim
    (λ (here : at ≡ n).
    let less : f n < g n = subst (λ (k : ℕ). f k < g k) here lt in
    omega (arith, less, sum_below-le n f g (λ i h. le i (omega arith))))
    (λ (other : at ≡ n → ⊥).
    omega (arith, le n (omega arith), sum_below-lt n f g at (omega (arith, inside, other)) (λ i h. le i (omega arith)) lt))
    (cases_eq at n)

-- functions of which one is nowhere greater on a list's elements
pub sum_by-le_each : {X : Type 0} (f g : X → ℕ) (xs : List X) → All (λ x. f x ≤ g x) xs → sum_by f xs ≤ sum_by g xs
sum_by-le_each f g [] all = omega arith
sum_by-le_each f g (x ∷ xs) all =
    omega (
      arith,
      All-head (λ y. f y ≤ g y) x xs all,
      sum_by-le_each f g xs (All-tail (λ y. f y ≤ g y) x xs all),
      sum_by-cons f x xs,
      sum_by-cons g x xs,
    )

-- elements that give nothing may be left out
pub sum_by-some : {X : Type 0} (f : X → ℕ) (xs : List X) → sum_by f (filter (λ x. nat_lt 0 (f x)) xs) ≡ sum_by f xs
sum_by-some f [] = refl
sum_by-some {X} f (x ∷ xs) =
    ⊎_elim
    (λ (some : nat_lt 0 (f x) ≡ true).
    let e : filter (λ y. nat_lt 0 (f y)) (x ∷ xs) ≡ x ∷ filter (λ y. nat_lt 0 (f y)) xs =
    cond-true (nat_lt 0 (f x)) (x ∷ filter (λ y. nat_lt 0 (f y)) xs) (filter (λ y. nat_lt 0 (f y)) xs) some in
    omega (arith, ap (sum_by f) e, sum_by-cons f x (filter (λ y. nat_lt 0 (f y)) xs), sum_by-cons f x xs, sum_by-some f xs))
    (λ (none : nat_lt 0 (f x) ≡ false).
    let e : filter (λ y. nat_lt 0 (f y)) (x ∷ xs) ≡ filter (λ y. nat_lt 0 (f y)) xs =
    cond-false (nat_lt 0 (f x)) (x ∷ filter (λ y. nat_lt 0 (f y)) xs) (filter (λ y. nat_lt 0 (f y)) xs) none in
    omega (arith, ap (sum_by f) e, sum_by-cons f x xs, sum_by-some f xs, ltb-false 0 (f x) none))
    (cases_Bool (nat_lt 0 (f x)))

-- a test of the number may stand before the sum or in it
kept-number : {X : Type 0} (key count : X → ℕ) (P : ℕ → Bool) (xs : List X) (m : ℕ) →
    (if P m then sum_by (λ x. if key x == m then count x else 0) xs else 0) ≡ sum_by (λ x. if key x == m then (if P (key x) then count x else 0) else 0) xs
kept-number {X} key count P xs m =
    let all : ℕ = sum_by (λ x. if key x == m then count x else 0) xs in
    let inner : X → ℕ = λ x. if key x == m then (if P (key x) then count x else 0) else 0 in
    ⊎_elim
    (λ (kept : P m ≡ true).
    cond-true (P m) all 0 kept
    ∙ sum_by-same (λ x. if key x == m then count x else 0) inner
    (λ x.
    ⊎_elim
    (λ (same : (key x == m) ≡ true).
    let p : P (key x) ≡ true = ap P (eqb-true (key x) m same) ∙ kept in
    cond-true (key x == m) (count x) 0 same
    ∙ sym (cond-true (key x == m) (if P (key x) then count x else 0) 0 same ∙ cond-true (P (key x)) (count x) 0 p))
    (λ (other : (key x == m) ≡ false).
    cond-false (key x == m) (count x) 0 other ∙ sym (cond-false (key x == m) (if P (key x) then count x else 0) 0 other))
    (cases_Bool (key x == m))) xs)
    (λ (dropped : P m ≡ false).
    let none : sum_by inner xs ≡ sum_by (λ (x : X). 0) xs =
    sum_by-same inner (λ x. 0)
    (λ x.
    ⊎_elim
    (λ (same : (key x == m) ≡ true).
    let p : P (key x) ≡ false = ap P (eqb-true (key x) m same) ∙ dropped in
    cond-true (key x == m) (if P (key x) then count x else 0) 0 same ∙ cond-false (P (key x)) (count x) 0 p)
    (λ (other : (key x == m) ≡ false). cond-false (key x == m) (if P (key x) then count x else 0) 0 other)
    (cases_Bool (key x == m))) xs in
    let zero : sum_by (λ (x : X). 0) xs ≡ length xs * 0 = sum_by-const 0 xs in
    omega (arith, cond-false (P m) all 0 dropped, none, zero))
    (cases_Bool (P m))

-- what the elements of a list give at the numbers that pass a test
pub sum_below-where : {X : Type 0} (key count : X → ℕ) (P : ℕ → Bool) (n : ℕ) (xs : List X) → All (λ x. key x < n) xs →
    sum_below n (λ m. if P m then sum_by (λ x. if key x == m then count x else 0) xs else 0) ≡ sum_by (λ x. if P (key x) then count x else 0) xs
sum_below-where {X} key count P n xs below =
    sum_below-same n (λ m. if P m then sum_by (λ x. if key x == m then count x else 0) xs else 0)
    (λ m. sum_by (λ x. if key x == m then (if P (key x) then count x else 0) else 0) xs) (λ m h. kept-number key count P xs m)
    ∙ sum_below-gathered_all key (λ x. if P (key x) then count x else 0) n xs below
