-- Counting and searching the numbers below a bound that pass a test.
use Rattle.std.proofs.Common.{◌≡◌, ℕ, zero, suc, ◌+◌, ◌<◌, ◌≤◌, Bool, true, false, ◌||◌, cond, ⊎_elim, refl, ap, ◌∙◌, subst, arith}
use Rattle.std.specs.Prelude.{◌≢◌, nat_eq}
use Rattle.std.proofs.lemmas.Bool.{false≢true, or_cases, or_left, or_right}
use Rattle.std.proofs.lemmas.Bool.Decides.{eqb_tells}
use Rattle.fp_base_lists.specs.Below.{count_below, some_below}

-- one where a test is true
abbrev pub one_if : Bool → ℕ
one_if b = cond b 1 0

one_if-le : (b : Bool) → one_if b ≤ 1
one_if-le true = omega arith
one_if-le false = omega arith

-- no more than the bound pass
pub count_below-le : (n : ℕ) (test : ℕ → Bool) → count_below n test ≤ n
count_below-le zero test = omega arith
count_below-le (suc n) test = omega (arith, one_if-le (test n), count_below-le n test)

-- tests that agree below the bound
pub count_below-same : (n : ℕ) (s t : ℕ → Bool) → ((m : ℕ) → m < n → s m ≡ t m) → count_below n s ≡ count_below n t
count_below-same zero s t same = refl
count_below-same (suc n) s t same = omega (arith, ap one_if (same n (omega arith)), count_below-same n s t (λ m h. same m (omega arith)))

-- the first number apart
pub count_below-front : (n : ℕ) (test : ℕ → Bool) → count_below (suc n) test ≡ one_if (test 0) + count_below n (λ m. test (suc m))
count_below-front zero test = refl
count_below-front (suc n) test = omega (arith, count_below-front n test)

-- numbers that do not pass count for nothing
pub count_below-more : (n k : ℕ) (test : ℕ → Bool) → ((m : ℕ) → n ≤ m → test m ≡ false) → count_below (n + k) test ≡ count_below n test
count_below-more n zero test none = ap (λ (j : ℕ). count_below j test) (let e : n + 0 ≡ n = omega arith in e)
count_below-more n (suc k) test none =
    let next : n + suc k ≡ suc (n + k) = omega arith in
    rw next (omega (arith, ap one_if (none (n + k) (omega arith)), count_below-more n k test none))

-- a number that passes is counted
pub count_below-some : (n m : ℕ) (test : ℕ → Bool) → m < n → test m ≡ true → 1 ≤ count_below n test
count_below-some zero m test h is = absurd (omega (arith, h))
count_below-some (suc n) m test h is =
    ⊎_elim
    (λ (same : (nat_eq m n ≡ true) × (m ≡ n)). omega (arith, ap one_if (subst (λ (j : ℕ). test j ≡ true) same.1 is)))
    (λ (other : (nat_eq m n ≡ false) × (m ≢ n)). omega (arith, count_below-some n m test (omega (arith, h, other.1)) is))
    (eqb_tells m n)

-- a test divided in two
pub count_below-divided : (n : ℕ) (first second whole : ℕ → Bool) → ((m : ℕ) → one_if (first m) + one_if (second m) ≡ one_if (whole m)) →
    count_below n first + count_below n second ≡ count_below n whole
count_below-divided zero first second whole divides = refl
count_below-divided (suc n) first second whole divides = omega (arith, divides n, count_below-divided n first second whole divides)

-- a number below the bound passes the test
pub some_below-true : (n m : ℕ) (test : ℕ → Bool) → m < n → test m ≡ true → some_below n test ≡ true
some_below-true zero m test h is = absurd (omega (arith, h))
some_below-true (suc n) m test h is =
    ⊎_elim
    (λ (same : (nat_eq m n ≡ true) × (m ≡ n)). or_left (test n) (some_below n test) (subst (λ (k : ℕ). test k ≡ true) same.1 is))
    (λ (other : (nat_eq m n ≡ false) × (m ≢ n)). or_right (test n) (some_below n test) (some_below-true n m test (omega (arith, h, other.1)) is))
    (eqb_tells m n)

-- and where one does, it is one of the numbers
pub some_below-witness : (n : ℕ) (test : ℕ → Bool) → some_below n test ≡ true → (m : ℕ) × (m < n) × (test m ≡ true)
some_below-witness zero test h = absurd (false≢true h)
some_below-witness (suc n) test h =
    ⊎_elim
    (λ (here : test n ≡ true). (n, omega arith, here))
    (λ (later : some_below n test ≡ true). let w = some_below-witness n test later in (w.0, omega (arith, w.1), w.2))
    (or_cases (test n) (some_below n test) h)

-- tests that agree
pub some_below-same : (n : ℕ) (f g : ℕ → Bool) → ((m : ℕ) → f m ≡ g m) → some_below n f ≡ some_below n g
some_below-same zero f g same = refl
some_below-same (suc n) f g same =
    ap (λ (b : Bool). b || some_below n f) (same n) ∙ ap (λ (b : Bool). g n || b) (some_below-same n f g same)
