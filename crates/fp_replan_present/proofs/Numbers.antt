-- The numbers below a bound that pass a test, and what a function makes of all below one.
use Rattle.std.proofs.Common.{◌≡◌, ℕ, zero, suc, ◌+◌, ◌<◌, ◌≤◌, true, false, Bool, List, [], ◌∷◌, ◌++◌, length, get_or, refl, sym, ap, ◌∙◌, subst, arith, append-nil, length-append, ⊎_elim, eq-eqb}
use Rattle.std.specs.Prelude.{cond, nat_eq, AllPairs}
use Rattle.std.specs.List.{AllByRecursion}
use Rattle.std.proofs.lemmas.Bool.{cases_Bool, cases_lt, false≢true, or_left, or_right}
use Rattle.std.proofs.lemmas.List.{get_or_append_left, get_or_push}
use Rattle.std.proofs.lemmas.List.Quantifiers.{all_pairs_push}
use Rattle.fp_base_lists.specs.Membership.{list_has}
use Rattle.fp_base_lists.proofs.Elements.{AllByRecursion-get_or, AllByRecursion-push, AllByRecursion-weaker}
use Rattle.fp_base_lists.proofs.Membership.{AllByRecursion-list_has, list_has-append}
use Rattle.fp_replan_present.specs.Plans.{listed}
use Rattle.fp_replan_present.specs.Rests.{passing}

-- each of the numbers is below the bound and passes
abbrev pub PassesBelow : (ℕ → Bool) → ℕ → ℕ → Type 0
PassesBelow test n k = (k < n) × (test k ≡ true)

pub passing-each : (test : ℕ → Bool) (n : ℕ) → AllByRecursion (PassesBelow test n) (passing test n)
passing-each test zero = tt
passing-each test (suc n) =
    let before : AllByRecursion (PassesBelow test (suc n)) (passing test n) =
    AllByRecursion-weaker (PassesBelow test n) (PassesBelow test (suc n)) (λ k is. (omega (arith, is.0), is.1)) (passing test n) (passing-each test n) in
    ⊎_elim
    (λ (passes : test n ≡ true).
    subst (λ c. AllByRecursion (PassesBelow test (suc n)) (passing test n ++ cond c (n ∷ []) [])) (sym passes)
    (AllByRecursion-push (PassesBelow test (suc n)) (passing test n) n before (omega arith, passes)))
    (λ (fails : test n ≡ false).
    subst (λ c. AllByRecursion (PassesBelow test (suc n)) (passing test n ++ cond c (n ∷ []) [])) (sym fails)
    (subst (AllByRecursion (PassesBelow test (suc n))) (sym (append-nil (passing test n))) before))
    (cases_Bool (test n))

-- and each such number is among them
pub passing-has : (test : ℕ → Bool) (n k : ℕ) → k < n → test k ≡ true → list_has (passing test n) k ≡ true
passing-has test zero k lt passes = absurd (omega (arith, lt))
passing-has test (suc n) k lt passes =
    list_has-append (passing test n) (cond (test n) (n ∷ []) []) k
    ∙ ⊎_elim
    (λ (before : k < n). or_left (list_has (passing test n) k) (list_has (cond (test n) (n ∷ []) []) k) (passing-has test n k before passes))
    (λ (after : n ≤ k).
    let same : n ≡ k = omega (arith, lt, after) in
    or_right (list_has (passing test n) k) (list_has (cond (test n) (n ∷ []) []) k)
    (subst (λ b. list_has (cond b (n ∷ []) []) k ≡ true) (sym (subst (λ m. test m ≡ true) (sym same) passes)) (or_left (nat_eq n k) false (eq-eqb n k same))))
    (cases_lt k n)

-- they ascend
pub passing-up : (test : ℕ → Bool) (n : ℕ) → AllPairs (λ a b. a < b) (passing test n)
passing-up test zero = λ i j d lt within. absurd (omega (arith, within))
passing-up test (suc n) =
    let before : AllPairs (λ a b. a < b) (passing test n) = passing-up test n in
    ⊎_elim
    (λ (passes : test n ≡ true).
    subst (λ c. AllPairs (λ a b. a < b) (passing test n ++ cond c (n ∷ []) [])) (sym passes)
    (all_pairs_push (λ a b. a < b) (passing test n) n before
    (λ k d lt. (AllByRecursion-get_or (PassesBelow test n) (passing test n) k d (passing-each test n) lt).0)))
    (λ (fails : test n ≡ false).
    subst (λ c. AllPairs (λ a b. a < b) (passing test n ++ cond c (n ∷ []) [])) (sym fails)
    (subst (AllPairs (λ a b. a < b)) (sym (append-nil (passing test n))) before))
    (cases_Bool (test n))

-- so the numbers below the bound that are among them are those that pass
pub passing-tells : (test : ℕ → Bool) (n k : ℕ) → k < n → list_has (passing test n) k ≡ test k
passing-tells test n k lt =
    ⊎_elim
    (λ (passes : test k ≡ true). passing-has test n k lt passes ∙ sym passes)
    (λ (fails : test k ≡ false).
    ⊎_elim
    (λ (has : list_has (passing test n) k ≡ true).
    absurd (false≢true (sym fails ∙ (AllByRecursion-list_has (PassesBelow test n) (passing test n) k (passing-each test n) has).1)))
    (λ (none : list_has (passing test n) k ≡ false). none ∙ sym fails)
    (cases_Bool (list_has (passing test n) k)))
    (cases_Bool (test k))

-- no more numbers pass than there are
pub passing-few : (test : ℕ → Bool) (n : ℕ) → length (passing test n) ≤ n
passing-few test zero = omega arith
passing-few test (suc n) =
    let before : length (passing test n) ≤ n = passing-few test n in
    ⊎_elim
    (λ (passes : test n ≡ true).
    subst (λ c. length (passing test n ++ cond c (n ∷ []) []) ≤ suc n) (sym passes) (omega (arith, length-append (passing test n) (n ∷ []), before)))
    (λ (fails : test n ≡ false). subst (λ c. length (passing test n ++ cond c (n ∷ []) []) ≤ suc n) (sym fails) (omega (arith, length-append (passing test n) [], before)))
    (cases_Bool (test n))

-- there is one for each number below the bound
pub length-listed : {X : Type 0} (f : ℕ → X) (n : ℕ) → length (listed f n) ≡ n
length-listed f zero = refl
length-listed f (suc n) = omega (arith, length-append (listed f n) (f n ∷ []), length-listed f n)

-- at each place what is made of it
pub get_or-listed : {X : Type 0} (f : ℕ → X) (n k : ℕ) (d : X) → k < n → get_or (listed f n) k d ≡ f k
get_or-listed f zero k d lt = absurd (omega (arith, lt))
get_or-listed {X} f (suc n) k d lt =
    ⊎_elim
    (λ (before : k < n).
    get_or_append_left (listed f n) (f n ∷ []) d k (omega (arith, before, length-listed f n)) ∙ get_or-listed f n k d before)
    (λ (after : n ≤ k).
    let same : n ≡ k = omega (arith, lt, after) in
    get_or_push (listed f n) (f n) d k (length-listed f n ∙ same) ∙ ap f same)
    (cases_lt k n)

-- the same where the functions agree
pub listed-same : {X : Type 0} (f g : ℕ → X) (n : ℕ) → ((k : ℕ) → k < n → f k ≡ g k) → listed f n ≡ listed g n
listed-same f g zero same = refl
listed-same {X} f g (suc n) same =
    ap (λ (xs : List X). xs ++ (f n ∷ [])) (listed-same f g n (λ k lt. same k (omega (arith, lt))))
    ∙ ap (λ (x : X). listed g n ++ (x ∷ [])) (same n (omega arith))

-- one more
pub listed-more : {X : Type 0} (f : ℕ → X) (n : ℕ) → listed f (n + 1) ≡ listed f n ++ (f n ∷ [])
listed-more {X} f n = let more : n + 1 ≡ suc n = omega arith in ap (listed f) more

pub passing-more : (test : ℕ → Bool) (n : ℕ) → passing test (n + 1) ≡ passing test n ++ cond (test n) (n ∷ []) []
passing-more test n = let more : n + 1 ≡ suc n = omega arith in ap (passing test) more
