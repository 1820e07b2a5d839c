-- Which shipments use a class that passes a test, where no walk has two such classes.
use Rattle.std.proofs.Common.{◌≡◌, ◌≢◌, ℕ, ◌+◌, ◌<◌, ◌≤◌, Bool, true, false, ◌||◌, cond, List, [], ◌∷◌, length, ◌⊎◌, ⊎_elim, inl, inr, refl, ap, ◌∙◌, subst, arith, le_refl}
use Rattle.std.specs.Prelude.{sum_by, if◌then◌else◌}
use Rattle.std.specs.List.{AllByRecursion, list_any}
use Rattle.std.proofs.lemmas.Bool.{cases_Bool, cond-true, cond-false, false_from_ne_true, false≢true, or_cases, or_from, or_left, or_parts}
use Rattle.std.proofs.lemmas.List.Sums.{sum_by-cons}
use Rattle.fp_base_lists.specs.Distinct.{AreDistinct}
use Rattle.fp_base_lists.specs.Numbered.{AllFrom}
use Rattle.fp_base_lists.proofs.Distinct.{AreDistinct-cons, AreDistinct-head, AreDistinct-nil, AreDistinct-tail}
use Rattle.fp_base_lists.proofs.Elements.{AllByRecursion-weaker}
use Rattle.fp_model.specs.declared.parts.Leg.{Leg}
use Rattle.fp_model.specs.Routes.{arcs_of}
use Rattle.fp_prices.proofs.TakenByClasses.{paid}

-- the shipments, numbered from i, whose walks have a class that passes the test
abbrev pub users_by : (Leg → Bool) → ℕ → List (List Leg) → List ℕ
users_by test i [] = []
users_by test i (walk ∷ walks) = if list_any test walk then i ∷ users_by test (i + 1) walks else users_by test (i + 1) walks

-- at most one class of a walk passes the test
abbrev pub OnePasses : (Leg → Bool) → List Leg → Type 0
OnePasses test [] = Unit {0}
OnePasses test (c ∷ walk) = (test c ≡ true → list_any test walk ≡ false) × OnePasses test walk

none-pass : (test : Leg → Bool) (a : ℕ) (walk : List Leg) → ((c : Leg) → test c ≡ true → c.arc ≡ a) → AllByRecursion (λ b. b ≢ a) (arcs_of walk) → list_any test walk ≡ false
none-pass test a [] by others = refl
none-pass test a (c ∷ walk) by others =
    or_from (test c) (list_any test walk) (false_from_ne_true (test c) (λ h. others.0 (by c h))) (none-pass test a walk by others.1)

-- so it is where all that pass are of one arc, and the walk has no arc twice
pub one-passes : (test : Leg → Bool) (a : ℕ) (walk : List Leg) → ((c : Leg) → test c ≡ true → c.arc ≡ a) → AreDistinct (arcs_of walk) → OnePasses test walk
one-passes test a [] by apart = tt
one-passes test a (c ∷ walk) by apart = (
  λ h. none-pass test a walk by (subst (λ (n : ℕ). AllByRecursion (λ b. b ≢ n) (arcs_of walk)) (by c h) (AreDistinct-head c.arc (arcs_of walk) apart)),
  one-passes test a walk by (AreDistinct-tail c.arc (arcs_of walk) apart),
)

sum_by-none : (test : Leg → Bool) (n : ℕ) (walk : List Leg) → list_any test walk ≡ false → sum_by (λ c. if test c then n else 0) walk ≡ 0
sum_by-none test n [] none = refl
sum_by-none test n (c ∷ walk) none =
    let parts = or_parts (test c) (list_any test walk) none in
    omega (arith, sum_by-cons (λ e. if test e then n else 0) c walk, cond-false (test c) n 0 parts.0, sum_by-none test n walk parts.1)

-- what the one that passes costs
sum_by-one : (test : Leg → Bool) (n : ℕ) (walk : List Leg) → OnePasses test walk → sum_by (λ c. if test c then n else 0) walk ≡ (if list_any test walk then n else 0)
sum_by-one test n [] one = refl
sum_by-one test n (c ∷ walk) one =
    let each : sum_by (λ e. if test e then n else 0) (c ∷ walk) ≡ (if test c then n else 0) + sum_by (λ e. if test e then n else 0) walk =
    sum_by-cons (λ e. if test e then n else 0) c walk in
    ⊎_elim
    (λ (passes : test c ≡ true).
    omega (
      arith,
      each,
      cond-true (test c) n 0 passes,
      sum_by-none test n walk (one.0 passes),
      cond-true (list_any test (c ∷ walk)) n 0 (or_left (test c) (list_any test walk) passes),
    ))
    (λ (fails : test c ≡ false).
    let same : (if list_any test (c ∷ walk) then n else 0) ≡ (if list_any test walk then n else 0) = ap (λ (b : Bool). cond (b || list_any test walk) n 0) fails in
    omega (arith, each, cond-false (test c) n 0 fails, sum_by-one test n walk one.1, same))
    (cases_Bool (test c))

-- what shipments pay for the classes that pass is what each user pays once
pub paid-users : (test : Leg → Bool) (f : ℕ → ℕ) (i : ℕ) (walks : List (List Leg)) → AllByRecursion (OnePasses test) walks →
    paid (λ c k. if test c then f k else 0) i walks ≡ sum_by f (users_by test i walks)
paid-users test f i [] one = refl
paid-users test f i (walk ∷ walks) one =
    let others : List ℕ = users_by test (i + 1) walks in
    let here : sum_by (λ c. if test c then f i else 0) walk ≡ (if list_any test walk then f i else 0) = sum_by-one test (f i) walk one.0 in
    let rest : paid (λ c k. if test c then f k else 0) (i + 1) walks ≡ sum_by f others = paid-users test f (i + 1) walks one.1 in
    ⊎_elim
    (λ (uses : list_any test walk ≡ true).
    let counted : sum_by f (users_by test i (walk ∷ walks)) ≡ f i + sum_by f others =
    ap (sum_by f) (cond-true (list_any test walk) (i ∷ others) others uses) ∙ sum_by-cons f i others in
    omega (arith, here, rest, counted, cond-true (list_any test walk) (f i) 0 uses))
    (λ (uses_not : list_any test walk ≡ false).
    let skipped : sum_by f (users_by test i (walk ∷ walks)) ≡ sum_by f others = ap (sum_by f) (cond-false (list_any test walk) (i ∷ others) others uses_not) in
    omega (arith, here, rest, skipped, cond-false (list_any test walk) (f i) 0 uses_not))
    (cases_Bool (list_any test walk))

users_by-above : (low i : ℕ) (test : Leg → Bool) (walks : List (List Leg)) → low ≤ i → AllByRecursion (λ y. low ≤ y) (users_by test i walks)
users_by-above low i test [] h = tt
users_by-above low i test (walk ∷ walks) h =
    let others : List ℕ = users_by test (i + 1) walks in
    let rest : AllByRecursion (λ y. low ≤ y) others = users_by-above low (i + 1) test walks (omega (arith, h)) in
    elim (list_any test walk) as (λ b. AllByRecursion (λ y. low ≤ y) (cond b (i ∷ others) others)) [ true ↦ (h, rest) | false ↦ rest ]

-- the users are different shipments
pub users_by-apart : (test : Leg → Bool) (i : ℕ) (walks : List (List Leg)) → AreDistinct (users_by test i walks)
users_by-apart test i [] = AreDistinct-nil
users_by-apart test i (walk ∷ walks) =
    let others : List ℕ = users_by test (i + 1) walks in
    let rest : AreDistinct others = users_by-apart test (i + 1) walks in
    let differ : AllByRecursion (λ y. y ≢ i) others =
    AllByRecursion-weaker (λ y. i + 1 ≤ y) (λ y. y ≢ i) (λ y above same. omega (arith, above, same)) others (users_by-above (i + 1) (i + 1) test walks (le_refl (i + 1))) in
    elim (list_any test walk) as (λ b. AreDistinct (cond b (i ∷ others) others)) [ true ↦ AreDistinct-cons i others differ rest | false ↦ rest ]

-- a shipment below a number uses a class that passes the test and is allowed for it
pub record HasUser (test : Leg → Bool) (allowed : ℕ → Leg → Bool) (bound : ℕ) : Type 0 where
  pub class : Leg
  pub shipment : ℕ
  pub below : shipment < bound
  pub allows : allowed shipment class ≡ true
  pub passes : test class ≡ true

user-of : (test : Leg → Bool) (allowed : ℕ → Leg → Bool) (bound k : ℕ) (walk : List Leg) → k < bound → AllByRecursion (λ c. allowed k c ≡ true) walk → list_any test walk ≡ true → HasUser test allowed bound
user-of test allowed bound k [] below all any = absurd (false≢true any)
user-of test allowed bound k (c ∷ walk) below all any =
    ⊎_elim
    (λ (here : test c ≡ true). record { class = c; shipment = k; below = below; allows = all.0; passes = here })
    (λ (later : list_any test walk ≡ true). user-of test allowed bound k walk below all.1 later)
    (or_cases (test c) (list_any test walk) any)

-- where there are users, one of them uses such a class
pub first-user : (test : Leg → Bool) (allowed : ℕ → Leg → Bool) (bound i : ℕ) (walks : List (List Leg)) → i + length walks ≤ bound →
    AllFrom (λ k walk. AllByRecursion (λ c. allowed k c ≡ true) walk) i walks → (users_by test i walks ≡ []) ⊎ HasUser test allowed bound
first-user test allowed bound i [] long all = inl refl
first-user test allowed bound i (walk ∷ walks) long all =
    ⊎_elim
    (λ (uses : list_any test walk ≡ true). inr (user-of test allowed bound i walk (omega (arith, long)) all.0 uses))
    (λ (uses_not : list_any test walk ≡ false).
    ⊎_elim
    (λ (none : users_by test (i + 1) walks ≡ []). inl (cond-false (list_any test walk) (i ∷ users_by test (i + 1) walks) (users_by test (i + 1) walks) uses_not ∙ none))
    (λ (some : HasUser test allowed bound). inr some)
    (first-user test allowed bound (i + 1) walks (omega (arith, long)) all.1))
    (cases_Bool (list_any test walk))
