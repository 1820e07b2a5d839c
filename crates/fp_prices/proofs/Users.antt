-- Which shipments use a class, and what they weigh.
use Rattle.std.proofs.Common.{◌≡◌, ◌≢◌, ℕ, ◌+◌, ◌≤◌, Bool, true, false, cond, List, [], ◌∷◌, length, ⊎_elim, refl, sym, ap, ◌∙◌, arith, le_refl}
use Rattle.std.specs.Prelude.{sum_by}
use Rattle.std.specs.List.{AllByRecursion}
use Rattle.std.proofs.lemmas.Bool.{cases_Bool, cond-true, cond-false, or_parts}
use Rattle.std.proofs.lemmas.List.Folds.{list_any-append}
use Rattle.std.proofs.lemmas.List.Sums.{sum_by-cons}
use Rattle.fp_base_lists.proofs.Distinct.{AreDistinct-cons, AreDistinct-nil}
use Rattle.fp_model.specs.declared.parts.Leg.{Leg}
use Rattle.fp_model.specs.declared.parts.Shipment.{Shipment}
use Rattle.fp_base_lists.specs.Numbered.{AllFrom}
use Rattle.fp_base_lists.specs.Distinct.{AreDistinct}
use Rattle.fp_model.specs.Costs.{same_leg, has_leg, all_legs, load}
use Rattle.fp_base_lists.proofs.Elements.{AllByRecursion-weaker}
use Rattle.fp_prices.specs.Prices.{allowed_count}
use Rattle.fp_prices.proofs.TakenByClasses.{users}

-- `size` tells the sizes of the shipments, numbered from i
abbrev pub AgreesFrom : (ℕ → ℕ) → ℕ → List Shipment → Type 0
AgreesFrom size i [] = Unit {0}
AgreesFrom size i (s ∷ shipments) = (size i ≡ s.size) × AgreesFrom size (i + 1) shipments

-- the users of a class are as large as its load
pub users-size : (size : ℕ → ℕ) (i : ℕ) (shipments : List Shipment) (walks : List (List Leg)) (c : Leg) → length walks ≡ length shipments → AgreesFrom size i shipments →
    sum_by size (users i walks c) ≡ load shipments walks c
users-size size i [] [] c long agrees = refl
users-size size i [] (walk ∷ walks) c long agrees = omega arith
users-size size i (s ∷ shipments) [] c long agrees = omega arith
users-size size i (s ∷ shipments) (walk ∷ walks) c long agrees =
    let short : length walks ≡ length shipments = omega arith in
    let others : List ℕ = users (i + 1) walks c in
    let rest : sum_by size others ≡ load shipments walks c = users-size size (i + 1) shipments walks c short agrees.1 in
    ⊎_elim
    (λ (h : has_leg c walk ≡ true).
    let counted : sum_by size (users i (walk ∷ walks) c) ≡ size i + sum_by size others =
    ap (sum_by size) (cond-true (has_leg c walk) (i ∷ others) others h) ∙ sum_by-cons size i others in
    omega (arith, counted, rest, agrees.0, cond-true (has_leg c walk) s.size 0 h))
    (λ (h : has_leg c walk ≡ false).
    let skipped : sum_by size (users i (walk ∷ walks) c) ≡ sum_by size others =
    ap (sum_by size) (cond-false (has_leg c walk) (i ∷ others) others h) in
    omega (arith, skipped, rest, cond-false (has_leg c walk) s.size 0 h))
    (cases_Bool (has_leg c walk))

users-above : (low i : ℕ) (walks : List (List Leg)) (c : Leg) → low ≤ i → AllByRecursion (λ y. low ≤ y) (users i walks c)
users-above low i [] c h = tt
users-above low i (walk ∷ walks) c h =
    let others : List ℕ = users (i + 1) walks c in
    let rest : AllByRecursion (λ y. low ≤ y) others = users-above low (i + 1) walks c (omega (arith, h)) in
    elim (has_leg c walk) as (λ b. AllByRecursion (λ y. low ≤ y) (cond b (i ∷ others) others)) [ true ↦ (h, rest) | false ↦ rest ]

-- they are different shipments
pub users-apart : (i : ℕ) (walks : List (List Leg)) (c : Leg) → AreDistinct (users i walks c)
users-apart i [] c = AreDistinct-nil
users-apart i (walk ∷ walks) c =
    let others : List ℕ = users (i + 1) walks c in
    let rest : AreDistinct others = users-apart (i + 1) walks c in
    let differ : AllByRecursion (λ y. y ≢ i) others =
    AllByRecursion-weaker (λ y. i + 1 ≤ y) (λ y. y ≢ i) (λ y above same. omega (arith, above, same)) others (users-above (i + 1) (i + 1) walks c (le_refl (i + 1))) in
    elim (has_leg c walk) as (λ b. AreDistinct (cond b (i ∷ others) others)) [ true ↦ AreDistinct-cons i others differ rest | false ↦ rest ]

-- a class that no walk has has none
pub users-none : (i : ℕ) (walks : List (List Leg)) (c : Leg) → has_leg c (all_legs walks) ≡ false → users i walks c ≡ []
users-none i [] c h = refl
users-none i (walk ∷ walks) c h =
    let parts = or_parts (has_leg c walk) (has_leg c (all_legs walks)) (sym (list_any-append (same_leg c) walk (all_legs walks)) ∙ h) in
    cond-false (has_leg c walk) (i ∷ users (i + 1) walks c) (users (i + 1) walks c) parts.0 ∙ users-none (i + 1) walks c parts.1

-- there are no more users than shipments for which the class is allowed
pub users-few : (allowed : ℕ → Bool) (i : ℕ) (shipments : List Shipment) (walks : List (List Leg)) (c : Leg) → length walks ≡ length shipments →
    AllFrom (λ k walk. has_leg c walk ≡ true → allowed k ≡ true) i walks → length (users i walks c) ≤ allowed_count allowed i shipments
users-few allowed i [] [] c long are = le_refl 0
users-few allowed i [] (walk ∷ walks) c long are = omega arith
users-few allowed i (s ∷ shipments) [] c long are = omega arith
users-few allowed i (s ∷ shipments) (walk ∷ walks) c long are =
    let short : length walks ≡ length shipments = omega arith in
    let others : List ℕ = users (i + 1) walks c in
    let rest : length others ≤ allowed_count allowed (i + 1) shipments = users-few allowed (i + 1) shipments walks c short are.1 in
    ⊎_elim
    (λ (h : has_leg c walk ≡ true).
    let counted : length (users i (walk ∷ walks) c) ≡ length (i ∷ others) = ap length (cond-true (has_leg c walk) (i ∷ others) others h) in
    omega (arith, counted, rest, cond-true {A = ℕ} (allowed i) 1 0 (are.0 h)))
    (λ (h : has_leg c walk ≡ false).
    let skipped : length (users i (walk ∷ walks) c) ≡ length others = ap length (cond-false (has_leg c walk) (i ∷ others) others h) in
    omega (arith, skipped, rest))
    (cases_Bool (has_leg c walk))
