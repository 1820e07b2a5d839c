-- A list with one of its elements as the last one.
use Rattle.std.proofs.Common.{◌≡◌, ℕ, zero, suc, ◌+◌, ◌-◌, ◌<◌, ◌≤◌, List, [], ◌∷◌, ◌++◌, length, get_or, take, drop, refl, sym, ap, ◌∙◌, arith}
use Rattle.std.proofs.lemmas.List.{get_or_append_left, length-append}
use Rattle.std.proofs.Math.Seq.{get_or-append_seam, take-append_seam}
use Rattle.fp_replan_quotes.specs.LastShipments.{StandsLast, removed, to_last}

-- one element fewer is left
pub length-removed : {X : Type 0} (k : ℕ) (xs : List X) → k < length xs → length (removed k xs) + 1 ≡ length xs
length-removed k [] lt = absurd (omega (arith, lt))
length-removed zero (x ∷ xs) lt = omega arith
length-removed (suc k) (x ∷ xs) lt =
    let shorter : k < length xs = omega (arith, lt) in
    omega (arith, length-removed k xs shorter)

-- as many elements stand in the other order
pub length-to_last : {X : Type 0} (k : ℕ) (xs : List X) → length (to_last k xs) ≡ length xs
length-to_last zero [] = refl
length-to_last (suc k) [] = refl
length-to_last zero (x ∷ xs) = let one = length-append xs (x ∷ []) in omega (arith, one)
length-to_last (suc k) (x ∷ xs) = omega (arith, length-to_last k xs)

-- without the last of them those that were left
pub front-to_last : {X : Type 0} (k : ℕ) (xs : List X) → k < length xs → take (length (to_last k xs) - 1) (to_last k xs) ≡ removed k xs
front-to_last k xs lt =
    let n : length (to_last k xs) - 1 ≡ length (removed k xs) = omega (arith, length-to_last k xs, length-removed k xs lt) in
    ap (λ (m : ℕ). take m (to_last k xs)) n ∙ take-append_seam (removed k xs) (take 1 (drop k xs))

-- where each stands
last-to_last : {X : Type 0} (k : ℕ) (xs : List X) (none : X) → k < length xs → get_or (to_last k xs) (length xs - 1) none ≡ get_or xs k none
last-to_last k [] none lt = absurd (omega (arith, lt))
last-to_last zero (x ∷ xs) none lt =
    let n : length (x ∷ xs) - 1 ≡ length xs = omega arith in
    ap (λ (m : ℕ). get_or (xs ++ x ∷ []) m none) n ∙ get_or-append_seam xs x [] none
last-to_last (suc k) (x ∷ xs) none lt =
    let shorter : k < length xs = omega (arith, lt) in
    let n : length (x ∷ xs) - 1 ≡ suc (length xs - 1) = omega (arith, shorter) in
    ap (λ (m : ℕ). get_or (x ∷ to_last k xs) m none) n ∙ last-to_last k xs none shorter

before-to_last : {X : Type 0} (k : ℕ) (xs : List X) (i : ℕ) (none : X) → i < k → k < length xs → get_or (to_last k xs) i none ≡ get_or xs i none
before-to_last k [] i none less lt = absurd (omega (arith, lt))
before-to_last zero (x ∷ xs) i none less lt = absurd (omega (arith, less))
before-to_last (suc k) (x ∷ xs) zero none less lt = refl
before-to_last (suc k) (x ∷ xs) (suc i) none less lt = before-to_last k xs i none (omega (arith, less)) (omega (arith, lt))

after-to_last : {X : Type 0} (k : ℕ) (xs : List X) (i : ℕ) (none : X) → k ≤ i → suc i < length xs → get_or (to_last k xs) i none ≡ get_or xs (suc i) none
after-to_last k [] i none le lt = absurd (omega (arith, lt))
after-to_last zero (x ∷ xs) i none le lt = get_or_append_left xs (x ∷ []) none i (omega (arith, lt))
after-to_last (suc k) (x ∷ xs) zero none le lt = absurd (omega (arith, le))
after-to_last (suc k) (x ∷ xs) (suc i) none le lt = after-to_last k xs i none (omega (arith, le)) (omega (arith, lt))

pub StandsLast-to_last : {X : Type 0} (k : ℕ) (xs : List X) → k < length xs → StandsLast k xs (to_last k xs)
StandsLast-to_last k xs lt = record {
  long = length-to_last k xs;
  last = λ none. last-to_last k xs none lt;
  before = λ i none less. before-to_last k xs i none less lt;
  after = λ i none le within.
      let next : i + 1 ≡ suc i = omega arith in
      after-to_last k xs i none le (omega (arith, within)) ∙ ap (λ (m : ℕ). get_or xs m none) (sym next);
}
