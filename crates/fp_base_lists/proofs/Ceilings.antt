-- Quotients rounded up: how many of one size hold an amount.
use Rattle.std.proofs.Common.{List, [], ◌∷◌, ap, subst, ⊎_elim, ◌≡◌, ℕ, zero, suc, ◌+◌, ◌*◌, ◌<◌, ◌≤◌, refl, arith}
use Rattle.std.specs.Prelude.{sum_by}
use Rattle.std.specs.Int.{div_ceil}
use Rattle.std.proofs.Math.Nat.{div-zero, mod-zero, lt_of_mul-lt-mul_right}
use Rattle.std.proofs.lemmas.Bool.{cases_lt}
use Rattle.std.proofs.lemmas.Grind.{div_ceil_times}
use Rattle.std.proofs.lemmas.List.Sums.{sum_by-cons}

-- nothing needs none
pub div_ceil-zero : (u : ℕ) → div_ceil 0 u ≡ 0
div_ceil-zero zero = refl
div_ceil-zero (suc u) =
    let bounds = div_ceil_times 0 (suc u) (omega arith) in
    let below : div_ceil 0 (suc u) * suc u < 1 * suc u = omega (arith, bounds.1) in
    let few : div_ceil 0 (suc u) < 1 = lt_of_mul-lt-mul_right (suc u) below in
    omega arith

-- two amounts together need no more than each alone
pub div_ceil-add : (a b u : ℕ) → div_ceil (a + b) u ≤ div_ceil a u + div_ceil b u
div_ceil-add a b zero = simp (div-zero, mod-zero) (omega arith)
div_ceil-add a b (suc u) =
    let first = div_ceil_times a (suc u) (omega arith) in
    let second = div_ceil_times b (suc u) (omega arith) in
    let both = div_ceil_times (a + b) (suc u) (omega arith) in
    let below : div_ceil (a + b) (suc u) * suc u < (div_ceil a (suc u) + div_ceil b (suc u) + 1) * suc u =
    omega (arith, first.0, second.0, both.1) in
    let few : div_ceil (a + b) (suc u) < div_ceil a (suc u) + div_ceil b (suc u) + 1 =
    lt_of_mul-lt-mul_right (suc u) below in
    omega (arith, few)

-- so many hold the amount
pub div_ceil-holds : (a u : ℕ) → 0 < u → a ≤ div_ceil a u * u
div_ceil-holds a u h = (div_ceil_times a u h).0

-- and where some number holds it, these are no more
pub div_ceil-least : (a u n : ℕ) → 0 < u → a ≤ n * u → div_ceil a u ≤ n
div_ceil-least a u n h holds =
    let bounds = div_ceil_times a u h in
    let below : div_ceil a u * u < (n + 1) * u = omega (arith, bounds.1, holds) in
    let few : div_ceil a u < n + 1 = lt_of_mul-lt-mul_right u below in
    omega (arith, few)

-- the ceiling of a sum
pub div_ceil-sum_by : {X : Type 0} (f : X → ℕ) (u : ℕ) (xs : List X) → div_ceil (sum_by f xs) u ≤ sum_by (λ x. div_ceil (f x) u) xs
div_ceil-sum_by f u [] = omega (arith, div_ceil-zero u)
div_ceil-sum_by f u (x ∷ xs) =
    let whole : div_ceil (sum_by f (x ∷ xs)) u ≡ div_ceil (f x + sum_by f xs) u = ap (λ (n : ℕ). div_ceil n u) (sum_by-cons f x xs) in
    omega (arith, whole, div_ceil-add (f x) (sum_by f xs) u, div_ceil-sum_by f u xs, sum_by-cons (λ y. div_ceil (f y) u) x xs)

-- a larger amount needs no fewer
pub div_ceil_mono : (a b u : ℕ) → a ≤ b → div_ceil a u ≤ div_ceil b u
div_ceil_mono a b zero le = simp (div-zero, mod-zero) (omega arith)
div_ceil_mono a b (suc u) le = div_ceil-least a (suc u) (div_ceil b (suc u)) (omega arith) (omega (arith, div_ceil-holds b (suc u) (omega arith), le))

-- something needs one
pub div_ceil-some : (a u : ℕ) → 0 < u → 0 < a → 1 ≤ div_ceil a u
div_ceil-some a u h some =
    ⊎_elim
    (λ (none : div_ceil a u < 1).
    let zero_is : div_ceil a u ≡ 0 = omega (arith, none) in
    let holds : a ≤ 0 * u = subst (λ (n : ℕ). a ≤ n * u) zero_is (div_ceil-holds a u h) in
    absurd (omega (arith, holds, some)))
    (λ (any : 1 ≤ div_ceil a u). any)
    (cases_lt (div_ceil a u) 1)
