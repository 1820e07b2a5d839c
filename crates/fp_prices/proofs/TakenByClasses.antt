-- What shipments pay for their classes is what the classes take from the shipments that use them.
use Rattle.std.proofs.Common.{◌≡◌, ℕ, ◌+◌, ◌≤◌, true, false, List, [], ◌∷◌, ⊎_elim, refl, sym, ap, ◌∙◌, arith}
use Rattle.std.specs.Prelude.{sum_by, if◌then◌else◌}
use Rattle.std.proofs.lemmas.Bool.{cases_Bool, cond-true, cond-false, or_parts}
use Rattle.std.proofs.lemmas.List.Folds.{list_any-append}
use Rattle.std.proofs.lemmas.List.Sums.{sum_by-cons}
use Rattle.fp_model.specs.declared.parts.Leg.{Leg}
use Rattle.fp_model.specs.Costs.{same_leg, has_leg, distinct, all_legs}
use Rattle.fp_model.proofs.Distinct.{distinct_sum, distinct_sum_new, distinct_sum_same, distinct_sum-le}
use Rattle.fp_base_lists.proofs.Sums.{sum_by-same, sum_by-both}

-- the shipments, numbered from i, whose walks have the class
abbrev pub users : ℕ → List (List Leg) → Leg → List ℕ
users i [] c = []
users i (walk ∷ walks) c = if has_leg c walk then i ∷ users (i + 1) walks c else users (i + 1) walks c

-- no leg stands twice
abbrev pub NoneTwice : List Leg → Type 0
NoneTwice [] = Unit {0}
NoneTwice (k ∷ legs) = (has_leg k legs ≡ false) × NoneTwice legs

abbrev pub NoneTwiceInAny : List (List Leg) → Type 0
NoneTwiceInAny [] = Unit {0}
NoneTwiceInAny (walk ∷ walks) = NoneTwice walk × NoneTwiceInAny walks

-- what all shipments, numbered from i, pay together
abbrev pub paid : (Leg → ℕ → ℕ) → ℕ → List (List Leg) → ℕ
paid price i [] = 0
paid price i (walk ∷ walks) = sum_by (λ c. price c i) walk + paid price (i + 1) walks

sum_by-distinct : (f : Leg → ℕ) (legs : List Leg) → NoneTwice legs → sum_by f legs ≡ distinct_sum f legs
sum_by-distinct f [] once = refl
sum_by-distinct f (k ∷ legs) once = omega (arith, sum_by-cons f k legs, distinct_sum_new f k legs once.0, sum_by-distinct f legs once.1)

-- what a class takes from the shipment with the number i, where its walk has it
abbrev taken_here : (Leg → ℕ → ℕ) → ℕ → List Leg → Leg → ℕ
taken_here price i walk c = if has_leg c walk then price c i else 0

taken-parts : (price : Leg → ℕ → ℕ) (i : ℕ) (walk : List Leg) (walks : List (List Leg)) (c : Leg) →
    sum_by (price c) (users i (walk ∷ walks) c) ≡ taken_here price i walk c + sum_by (price c) (users (i + 1) walks c)
taken-parts price i walk walks c =
    let others : List ℕ = users (i + 1) walks c in
    ⊎_elim
    (λ (h : has_leg c walk ≡ true).
    ap (sum_by (price c)) (cond-true (has_leg c walk) (i ∷ others) others h)
    ∙ sum_by-cons (price c) i others
    ∙ ap (λ (n : ℕ). n + sum_by (price c) others) (sym (cond-true (has_leg c walk) (price c i) 0 h)))
    (λ (h : has_leg c walk ≡ false).
    let skipped : sum_by (price c) (users i (walk ∷ walks) c) ≡ sum_by (price c) others =
    ap (sum_by (price c)) (cond-false (has_leg c walk) (i ∷ others) others h) in
    omega (arith, skipped, cond-false (has_leg c walk) (price c i) 0 h))
    (cases_Bool (has_leg c walk))

-- what shipments pay is at most what the classes take, where these are all that the walks have
pub paid-le : (price : Leg → ℕ → ℕ) (all : List Leg) (i : ℕ) (walks : List (List Leg)) → NoneTwiceInAny walks → ((k : Leg) → has_leg k all ≡ false → has_leg k (all_legs walks) ≡ false) →
    paid price i walks ≤ distinct_sum (λ c. sum_by (price c) (users i walks c)) all
paid-le price all i [] once within = omega arith
paid-le price all i (walk ∷ walks) once within =
    let own : Leg → ℕ = taken_here price i walk in
    let others : Leg → ℕ = λ c. sum_by (price c) (users (i + 1) walks c) in
    let out : (k : Leg) → has_leg k all ≡ false → (has_leg k walk ≡ false) × (has_leg k (all_legs walks) ≡ false) =
    λ k h. or_parts (has_leg k walk) (has_leg k (all_legs walks)) (sym (list_any-append (same_leg k) walk (all_legs walks)) ∙ within k h) in
    let split : distinct_sum (λ c. sum_by (price c) (users i (walk ∷ walks) c)) all ≡ distinct_sum own all + distinct_sum others all =
    sum_by-same (λ c. sum_by (price c) (users i (walk ∷ walks) c)) (λ c. own c + others c) (taken-parts price i walk walks) (distinct all)
    ∙ sum_by-both own others (distinct all) in
    let each : sum_by (λ c. price c i) walk ≡ distinct_sum own walk =
    sum_by-distinct (λ c. price c i) walk once.0 ∙ distinct_sum_same (λ c. price c i) own walk (λ k h. sym (cond-true (has_leg k walk) (price k i) 0 h)) in
    let here : distinct_sum own walk ≤ distinct_sum own all = distinct_sum-le walk all own (λ k h. cond-false (has_leg k walk) (price k i) 0 (out k h).0) in
    let later : paid price (i + 1) walks ≤ distinct_sum others all = paid-le price all (i + 1) walks once.1 (λ k h. (out k h).1) in
    omega (arith, split, each, here, later)
