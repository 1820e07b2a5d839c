-- Sums over the numbers below a bound.
use Rattle.std.proofs.Common.{◌≡◌, ◌≢◌, ℕ, zero, suc, ◌+◌, ◌<◌, ◌≤◌, ⊎_elim, refl, sym, ap, ◌∙◌, subst, arith, List, [], ◌∷◌, length, get_or}
use Rattle.std.proofs.lemmas.Bool.{cases_eq}
use Rattle.fp_base_lists.specs.Below.{sum_below}
use Rattle.std.specs.Prelude.{sum_by}
use Rattle.std.proofs.lemmas.List.Sums.{sum_by-cons}

-- functions that agree below the bound have the same sum
pub sum_below-same : (n : ℕ) (f g : ℕ → ℕ) → ((i : ℕ) → i < n → f i ≡ g i) → sum_below n f ≡ sum_below n g
sum_below-same zero f g same = refl
sum_below-same (suc n) f g same = omega (arith, same n (omega arith), sum_below-same n f g (λ i h. same i (omega arith)))

-- nothing adds up to nothing
pub sum_below-zero : (n : ℕ) → sum_below n (λ (i : ℕ). 0) ≡ 0
sum_below-zero zero = refl
sum_below-zero (suc n) = omega (arith, sum_below-zero n)

-- a function that gives something more at one number
pub sum_below-changed : (n at : ℕ) (f g : ℕ → ℕ) → at < n → ((i : ℕ) → i < n → i ≢ at → g i ≡ f i) → f at ≡ 0 →
    sum_below n g ≡ sum_below n f + g at
sum_below-changed zero at f g inside same none = absurd (omega arith)
sum_below-changed (suc n) at f g inside same none =
    ⊎_elim
    (λ (here : at ≡ n).
    let rest : sum_below n g ≡ sum_below n f = sum_below-same n g f (λ i h. same i (omega arith) (λ e. absurd (omega arith))) in
    let last : f n ≡ 0 = subst (λ (m : ℕ). f m ≡ 0) here none in
    let moved : g at ≡ g n = ap g here in
    omega (arith, rest, last, moved))
    (λ (other : at ≡ n → ⊥).
    let rest : sum_below n g ≡ sum_below n f + g at = sum_below-changed n at f g (omega arith) (λ i h apart. same i (omega arith) apart) none in
    omega (arith, rest, same n (omega arith) (λ e. other (sym e))))
    (cases_eq at n)

-- numbers at which the function is 0 add nothing
pub sum_below-more : (f : ℕ → ℕ) (n m : ℕ) → ((i : ℕ) → n ≤ i → i < n + m → f i ≡ 0) → sum_below (n + m) f ≡ sum_below n f
sum_below-more f n zero none = ap (λ (k : ℕ). sum_below k f) (let e : n + 0 ≡ n = omega arith in e)
sum_below-more f n (suc m) none =
    let e : n + suc m ≡ suc (n + m) = omega arith in
    let last : f (n + m) ≡ 0 = none (n + m) (omega arith) (omega arith) in
    let rest : sum_below (n + m) f ≡ sum_below n f = sum_below-more f n m (λ i from before. none i from (omega arith)) in
    ap (λ (k : ℕ). sum_below k f) e ∙ (let r : f (n + m) + sum_below (n + m) f ≡ sum_below n f = omega (arith, last, rest) in r)

-- each number adds what the function gives for it
pub sum_below-has : (f : ℕ → ℕ) (n m : ℕ) → sum_below n f + f n ≤ sum_below (suc n + m) f
sum_below-has f n zero = let e : suc n + 0 ≡ suc n = omega arith in rw e (omega arith)
sum_below-has f n (suc m) =
    let e : suc n + suc m ≡ suc (suc n + m) = omega arith in
    let rest : sum_below n f + f n ≤ sum_below (suc n + m) f = sum_below-has f n m in
    rw e (omega (arith, rest))

-- a function that is nowhere greater has no greater sum
pub sum_below-le : (n : ℕ) (f g : ℕ → ℕ) → ((i : ℕ) → i < n → f i ≤ g i) → sum_below n f ≤ sum_below n g
sum_below-le zero f g le = omega arith
sum_below-le (suc n) f g le = omega (arith, le n (omega arith), sum_below-le n f g (λ i h. le i (omega arith)))

-- the first number apart
pub sum_below-front : (n : ℕ) (f : ℕ → ℕ) → sum_below (suc n) f ≡ f 0 + sum_below n (λ k. f (suc k))
sum_below-front zero f = refl
sum_below-front (suc n) f = omega (arith, sum_below-front n f)

-- the places of a list give the sum of the list
pub sum_below-places : {X : Type 0} (f : X → ℕ) (d : X) (xs : List X) → sum_below (length xs) (λ k. f (get_or xs k d)) ≡ sum_by f xs
sum_below-places f d [] = refl
sum_below-places f d (x ∷ xs) =
    omega (arith, sum_below-front (length xs) (λ k. f (get_or (x ∷ xs) k d)), sum_below-places f d xs, sum_by-cons f x xs)
