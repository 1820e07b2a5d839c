-- Sums over lists.
use Rattle.std.proofs.Common.{◌≡◌, ℕ, ◌+◌, ◌*◌, List, [], ◌∷◌, length, map, refl, ap, arith}
use Rattle.std.specs.Prelude.{sum_by}
use Rattle.std.specs.List.{AllByRecursion}
use Rattle.std.proofs.lemmas.List.Sums.{sum_by-cons}

-- functions that agree everywhere have the same sum
pub sum_by-same : {X : Type 0} (f g : X → ℕ) → ((x : X) → f x ≡ g x) → (xs : List X) → sum_by f xs ≡ sum_by g xs
sum_by-same f g same [] = refl
sum_by-same f g same (x ∷ xs) = omega (arith, same x, sum_by-same f g same xs, sum_by-cons f x xs, sum_by-cons g x xs)

-- functions that agree on each element have the same sum
pub sum_by-same_each : {X : Type 0} (f g : X → ℕ) (xs : List X) → AllByRecursion (λ x. f x ≡ g x) xs → sum_by f xs ≡ sum_by g xs
sum_by-same_each f g [] all = refl
sum_by-same_each f g (x ∷ xs) all = omega (arith, all.0, sum_by-same_each f g xs all.1, sum_by-cons f x xs, sum_by-cons g x xs)

-- the sum over a list of values
pub sum_by-map : {X Y : Type 0} (g : Y → ℕ) (f : X → Y) (xs : List X) → sum_by g (map f xs) ≡ sum_by (λ x. g (f x)) xs
sum_by-map g f [] = refl
sum_by-map g f (x ∷ xs) = omega (arith, sum_by-map g f xs, sum_by-cons g (f x) (map f xs), sum_by-cons (λ y. g (f y)) x xs)

-- the sum of two functions
pub sum_by-both : {X : Type 0} (f g : X → ℕ) (xs : List X) → sum_by (λ x. f x + g x) xs ≡ sum_by f xs + sum_by g xs
sum_by-both f g [] = refl
sum_by-both f g (x ∷ xs) = omega (arith, sum_by-both f g xs, sum_by-cons f x xs, sum_by-cons g x xs, sum_by-cons (λ x. f x + g x) x xs)

-- the sum of one number
pub sum_by-const : {X : Type 0} (n : ℕ) (xs : List X) → sum_by (λ x. n) xs ≡ length xs * n
sum_by-const n [] = omega arith
sum_by-const n (x ∷ xs) = omega (arith, sum_by-const n xs, sum_by-cons (λ y. n) x xs)

-- a sum of multiples
pub sum_by-scaled : {X : Type 0} (n : ℕ) (f : X → ℕ) (xs : List X) → sum_by (λ x. n * f x) xs ≡ n * sum_by f xs
sum_by-scaled n f [] = omega arith
sum_by-scaled n f (x ∷ xs) =
    let all : n * sum_by f (x ∷ xs) ≡ n * (f x + sum_by f xs) = ap (λ (m : ℕ). n * m) (sum_by-cons f x xs) in
    omega (arith, sum_by-scaled n f xs, sum_by-cons (λ y. n * f y) x xs, all)

-- the multiple on the right
pub sum_by-scaled_right : {X : Type 0} (f : X → ℕ) (n : ℕ) (xs : List X) → sum_by (λ x. f x * n) xs ≡ sum_by f xs * n
sum_by-scaled_right f n [] = omega arith
sum_by-scaled_right f n (x ∷ xs) =
    let all : sum_by f (x ∷ xs) * n ≡ (f x + sum_by f xs) * n = ap (λ (m : ℕ). m * n) (sum_by-cons f x xs) in
    omega (arith, sum_by-scaled_right f n xs, sum_by-cons (λ y. f y * n) x xs, all)

-- a double sum, the other way round
pub sum_by-swap : {X Y : Type 0} (h : X → Y → ℕ) (xs : List X) (ys : List Y) →
    sum_by (λ y. sum_by (λ x. h x y) xs) ys ≡ sum_by (λ x. sum_by (h x) ys) xs
sum_by-swap {X} {Y} h [] ys = omega (arith, sum_by-const {X = Y} 0 ys)
sum_by-swap {X} {Y} h (x ∷ xs) ys =
    let each : sum_by (λ y. sum_by (λ z. h z y) (x ∷ xs)) ys ≡ sum_by (λ y. h x y + sum_by (λ z. h z y) xs) ys =
    sum_by-same (λ y. sum_by (λ z. h z y) (x ∷ xs)) (λ y. h x y + sum_by (λ z. h z y) xs) (λ y. sum_by-cons (λ z. h z y) x xs) ys in
    omega (arith, each, sum_by-both (h x) (λ y. sum_by (λ z. h z y) xs) ys, sum_by-swap h xs ys, sum_by-cons (λ z. sum_by (h z) ys) x xs)
