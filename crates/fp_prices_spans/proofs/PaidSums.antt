-- What shipments pay in several parts.
use Rattle.std.proofs.Common.{◌≡◌, ℕ, ◌+◌, List, [], ◌∷◌, map, refl, arith}
use Rattle.std.specs.Prelude.{sum_by}
use Rattle.std.proofs.lemmas.List.Sums.{sum_by-cons}
use Rattle.fp_base_lists.proofs.Sums.{sum_by-both, sum_by-const, sum_by-map, sum_by-same}
use Rattle.fp_model.specs.declared.parts.Leg.{Leg}
use Rattle.fp_prices.proofs.TakenByClasses.{paid}

-- prices that agree everywhere are paid alike
pub paid-same : (f g : Leg → ℕ → ℕ) → ((c : Leg) (k : ℕ) → f c k ≡ g c k) → (i : ℕ) (walks : List (List Leg)) → paid f i walks ≡ paid g i walks
paid-same f g same i [] = refl
paid-same f g same i (walk ∷ walks) = omega (arith, sum_by-same (λ c. f c i) (λ c. g c i) (λ c. same c i) walk, paid-same f g same (i + 1) walks)

-- prices in two parts
pub paid-both : (f g : Leg → ℕ → ℕ) (i : ℕ) (walks : List (List Leg)) → paid (λ c k. f c k + g c k) i walks ≡ paid f i walks + paid g i walks
paid-both f g i [] = refl
paid-both f g i (walk ∷ walks) = omega (arith, sum_by-both (λ c. f c i) (λ c. g c i) walk, paid-both f g (i + 1) walks)

pub paid-zero : (i : ℕ) (walks : List (List Leg)) → paid (λ c k. 0) i walks ≡ 0
paid-zero i [] = refl
paid-zero i (walk ∷ walks) = omega (arith, sum_by-const {X = Leg} 0 walk, paid-zero (i + 1) walks)

-- what is paid for the images of legs
pub paid-map : (f : Leg → ℕ → ℕ) (g : Leg → Leg) (i : ℕ) (walks : List (List Leg)) → paid f i (map (map g) walks) ≡ paid (λ l k. f (g l) k) i walks
paid-map f g i [] = refl
paid-map f g i (walk ∷ walks) = omega (arith, sum_by-map (λ l. f l i) g walk, paid-map f g (i + 1) walks)

-- prices in one part for each element of a list
pub paid-sum_by : {X : Type 0} (f : X → Leg → ℕ → ℕ) (xs : List X) (i : ℕ) (walks : List (List Leg)) →
    paid (λ c k. sum_by (λ x. f x c k) xs) i walks ≡ sum_by (λ x. paid (f x) i walks) xs
paid-sum_by f [] i walks = paid-zero i walks
paid-sum_by f (x ∷ xs) i walks =
    let others : Leg → ℕ → ℕ = λ c k. sum_by (λ y. f y c k) xs in
    omega (
      arith,
      paid-same (λ c k. sum_by (λ y. f y c k) (x ∷ xs)) (λ c k. f x c k + others c k) (λ c k. sum_by-cons (λ y. f y c k) x xs) i walks,
      paid-both (f x) others i walks,
      paid-sum_by f xs i walks,
      sum_by-cons (λ y. paid (f y) i walks) x xs,
    )
