-- Sums over the distinct legs of a list.
use Rattle.std.proofs.Common.{◌≡◌, ℕ, ◌+◌, ◌≤◌, Bool, true, false, ◌||◌, cond, List, [], ◌∷◌, ⊎_elim, refl, sym, ap, ap₂, ◌∙◌, subst, arith, eqb-true, eq-eqb, le_refl}
use Rattle.std.specs.Prelude.{sum_by, ◌==◌, if◌then◌else◌}
use Rattle.std.proofs.lemmas.Bool.{and_parts, and_from, cases_Bool, cond-true, cond-false, or_left, or_right, both_ways}
use Rattle.std.proofs.lemmas.List.Sums.{sum_by-cons}
use Rattle.fp_model.specs.declared.parts.Leg.{Leg}
use Rattle.fp_model.specs.Costs.{same_leg, has_leg, distinct}

-- a test that is true tells equal legs
pub same_leg-true : (k l : Leg) → same_leg k l ≡ true → k ≡ l
same_leg-true k l e =
    let parts = and_parts (k.arc == l.arc) (k.depart == l.depart) e in
    let arc : k.arc ≡ l.arc = eqb-true k.arc l.arc parts.0 in
    let depart : k.depart ≡ l.depart = eqb-true k.depart l.depart parts.1 in
    let leg : ℕ → ℕ → Leg = λ a n. record { arc = a; depart = n } in
    ap₂ leg arc depart

pub same_leg-refl : (k : Leg) → same_leg k k ≡ true
same_leg-refl k = and_from (k.arc == k.arc) (k.depart == k.depart) (eq-eqb k.arc k.arc refl) (eq-eqb k.depart k.depart refl)

-- the test answers alike both ways
pub same_leg-comm : (k l : Leg) → same_leg k l ≡ same_leg l k
same_leg-comm k l =
    ⊎_elim
    (λ (there : same_leg k l ≡ true). there ∙ sym (subst (λ (x : Leg). same_leg x k ≡ true) (same_leg-true k l there) (same_leg-refl k)))
    (λ (there : same_leg k l ≡ false).
    ⊎_elim
    (λ (back : same_leg l k ≡ true). absurd (both_ways (same_leg k l) there (subst (λ (x : Leg). same_leg x l ≡ true) (same_leg-true l k back) (same_leg-refl l))))
    (λ (back : same_leg l k ≡ false). there ∙ sym back)
    (cases_Bool (same_leg l k)))
    (cases_Bool (same_leg k l))

-- the sum over the distinct legs
abbrev pub distinct_sum : (Leg → ℕ) → List Leg → ℕ
distinct_sum f xs = sum_by f (distinct xs)

distinct_sum_again : (f : Leg → ℕ) (x : Leg) (xs : List Leg) → has_leg x xs ≡ true → distinct_sum f (x ∷ xs) ≡ distinct_sum f xs
distinct_sum_again f x xs h = ap (sum_by f) (cond-true (has_leg x xs) (distinct xs) (x ∷ distinct xs) h)

pub distinct_sum_new : (f : Leg → ℕ) (x : Leg) (xs : List Leg) → has_leg x xs ≡ false → distinct_sum f (x ∷ xs) ≡ f x + distinct_sum f xs
distinct_sum_new f x xs h = ap (sum_by f) (cond-false (has_leg x xs) (distinct xs) (x ∷ distinct xs) h) ∙ sum_by-cons f x (distinct xs)

-- f, and 0 at x
abbrev pub except : Leg → (Leg → ℕ) → Leg → ℕ
except x f k = if same_leg x k then 0 else f k

-- functions that agree on the legs have the same sum
pub distinct_sum_same : (f g : Leg → ℕ) (xs : List Leg) → ((k : Leg) → has_leg k xs ≡ true → f k ≡ g k) → distinct_sum f xs ≡ distinct_sum g xs
distinct_sum_same f g [] agree = refl
distinct_sum_same f g (x ∷ xs) agree =
    let later : distinct_sum f xs ≡ distinct_sum g xs = distinct_sum_same f g xs (λ k h. agree k (or_right (same_leg k x) (has_leg k xs) h)) in
    let here : f x ≡ g x = agree x (or_left (same_leg x x) (has_leg x xs) (same_leg-refl x)) in
    ⊎_elim
    (λ (h : has_leg x xs ≡ true). distinct_sum_again f x xs h ∙ later ∙ sym (distinct_sum_again g x xs h))
    (λ (h : has_leg x xs ≡ false). omega (arith, distinct_sum_new f x xs h, distinct_sum_new g x xs h, later, here))
    (cases_Bool (has_leg x xs))

-- the term of one leg, and the sum of the others
distinct_sum_split : (f : Leg → ℕ) (x : Leg) (ys : List Leg) → distinct_sum f ys ≡ (if has_leg x ys then f x else 0) + distinct_sum (except x f) ys
distinct_sum_split f x [] = refl
distinct_sum_split f x (y ∷ ys) =
    let later : distinct_sum f ys ≡ (if has_leg x ys then f x else 0) + distinct_sum (except x f) ys = distinct_sum_split f x ys in
    ⊎_elim
    (λ (same : same_leg x y ≡ true).
    let is : x ≡ y = same_leg-true x y same in
    let found : (if has_leg x (y ∷ ys) then f x else 0) ≡ f x = cond-true (has_leg x (y ∷ ys)) (f x) 0 (or_left (same_leg x y) (has_leg x ys) same) in
    let gone : except x f y ≡ 0 = cond-true (same_leg x y) 0 (f y) same in
    let value : f x ≡ f y = ap f is in
    ⊎_elim
    (λ (h : has_leg y ys ≡ true).
    let again : has_leg x ys ≡ true = subst (λ (k : Leg). has_leg k ys ≡ true) (sym is) h in
    omega (arith, distinct_sum_again f y ys h, distinct_sum_again (except x f) y ys h, later, found, cond-true (has_leg x ys) (f x) 0 again))
    (λ (h : has_leg y ys ≡ false).
    let new : has_leg x ys ≡ false = subst (λ (k : Leg). has_leg k ys ≡ false) (sym is) h in
    omega (arith, distinct_sum_new f y ys h, distinct_sum_new (except x f) y ys h, later, found, gone, value, cond-false (has_leg x ys) (f x) 0 new))
    (cases_Bool (has_leg y ys)))
    (λ (other : same_leg x y ≡ false).
    let kept : except x f y ≡ f y = cond-false (same_leg x y) 0 (f y) other in
    let found : (if has_leg x (y ∷ ys) then f x else 0) ≡ (if has_leg x ys then f x else 0) = ap (λ (b : Bool). cond (b || has_leg x ys) (f x) 0) other in
    ⊎_elim
    (λ (h : has_leg y ys ≡ true). omega (arith, distinct_sum_again f y ys h, distinct_sum_again (except x f) y ys h, later, found))
    (λ (h : has_leg y ys ≡ false). omega (arith, distinct_sum_new f y ys h, distinct_sum_new (except x f) y ys h, later, found, kept))
    (cases_Bool (has_leg y ys)))
    (cases_Bool (same_leg x y))

-- where f vanishes outside ys, its sum over any legs is at most that over ys
pub distinct_sum-le : (xs ys : List Leg) (f : Leg → ℕ) → ((k : Leg) → has_leg k ys ≡ false → f k ≡ 0) → distinct_sum f xs ≤ distinct_sum f ys
distinct_sum-le [] ys f outside = omega arith
distinct_sum-le (x ∷ xs) ys f outside =
    ⊎_elim
    (λ (h : has_leg x xs ≡ true). omega (arith, distinct_sum_again f x xs h, distinct_sum-le xs ys f outside))
    (λ (h : has_leg x xs ≡ false).
    ⊎_elim
    (λ (in_ys : has_leg x ys ≡ true).
    let apart : distinct_sum f xs ≡ distinct_sum (except x f) xs =
    distinct_sum_same f (except x f) xs (λ k has.
    ⊎_elim
    (λ (same : same_leg x k ≡ true).
    absurd (both_ways (has_leg x xs) h (subst (λ (l : Leg). has_leg l xs ≡ true) (sym (same_leg-true x k same)) has)))
    (λ (other : same_leg x k ≡ false). sym (cond-false (same_leg x k) 0 (f k) other))
    (cases_Bool (same_leg x k))) in
    let rest : distinct_sum (except x f) xs ≤ distinct_sum (except x f) ys =
    distinct_sum-le xs ys (except x f) (λ k not_there.
    ⊎_elim
    (λ (same : same_leg x k ≡ true). cond-true (same_leg x k) 0 (f k) same)
    (λ (other : same_leg x k ≡ false). cond-false (same_leg x k) 0 (f k) other ∙ outside k not_there)
    (cases_Bool (same_leg x k))) in
    omega (arith, distinct_sum_new f x xs h, apart, rest, distinct_sum_split f x ys, cond-true (has_leg x ys) (f x) 0 in_ys))
    (λ (not_in : has_leg x ys ≡ false). omega (arith, distinct_sum_new f x xs h, outside x not_in, distinct_sum-le xs ys f outside))
    (cases_Bool (has_leg x ys)))
    (cases_Bool (has_leg x xs))

-- a sum over distinct legs is at most that over all
pub distinct_sum-le-sum_by : (f : Leg → ℕ) (xs : List Leg) → distinct_sum f xs ≤ sum_by f xs
distinct_sum-le-sum_by f [] = le_refl 0
distinct_sum-le-sum_by f (x ∷ xs) =
    let later : distinct_sum f xs ≤ sum_by f xs = distinct_sum-le-sum_by f xs in
    ⊎_elim
    (λ (h : has_leg x xs ≡ true). omega (arith, distinct_sum_again f x xs h, later, sum_by-cons f x xs))
    (λ (h : has_leg x xs ≡ false). omega (arith, distinct_sum_new f x xs h, later, sum_by-cons f x xs))
    (cases_Bool (has_leg x xs))

-- a leg of a list is one of its distinct legs
pub term-le : (g : Leg → ℕ) (k : Leg) (xs : List Leg) → has_leg k xs ≡ true → g k ≤ distinct_sum g xs
term-le g k xs h = omega (arith, distinct_sum_split g k xs, cond-true (has_leg k xs) (g k) 0 h)

-- one value at one leg
pub one-le : (x : Leg) (n : ℕ) (ys : List Leg) → distinct_sum (λ c. if same_leg x c then n else 0) ys ≤ n
one-le x n ys =
    let only : Leg → ℕ = λ c. if same_leg x c then n else 0 in
    let held : distinct_sum only ys ≤ distinct_sum only (x ∷ []) = distinct_sum-le ys (x ∷ []) only (λ c out.
    ⊎_elim
    (λ (same : same_leg x c ≡ true).
    absurd (both_ways (has_leg c (x ∷ [])) out (subst (λ (l : Leg). has_leg c (l ∷ []) ≡ true) (sym (same_leg-true x c same)) (ap (λ (b : Bool). b || false) (same_leg-refl c)))))
    (λ (other : same_leg x c ≡ false). cond-false (same_leg x c) n 0 other)
    (cases_Bool (same_leg x c))) in
    let value : only x ≡ n = cond-true (same_leg x x) n 0 (same_leg-refl x) in
    omega (arith, held, value)

-- legs that all occur in ys have at most the sum over ys
distinct_sum-within : (f : Leg → ℕ) (xs ys : List Leg) → ((k : Leg) → has_leg k xs ≡ true → has_leg k ys ≡ true) → distinct_sum f xs ≤ distinct_sum f ys
distinct_sum-within f xs ys within =
    let g : Leg → ℕ = λ k. if has_leg k ys then f k else 0 in
    let same : (k : Leg) → has_leg k ys ≡ true → f k ≡ g k = λ k h. sym (cond-true (has_leg k ys) (f k) 0 h) in
    let first : distinct_sum f xs ≡ distinct_sum g xs = distinct_sum_same f g xs (λ k h. same k (within k h)) in
    let last : distinct_sum f ys ≡ distinct_sum g ys = distinct_sum_same f g ys same in
    omega (arith, first, last, distinct_sum-le xs ys g (λ k h. cond-false (has_leg k ys) (f k) 0 h))

-- a sum over distinct legs depends only on which legs occur
pub distinct_sum-occur : (f : Leg → ℕ) (xs ys : List Leg) → ((k : Leg) → has_leg k xs ≡ has_leg k ys) → distinct_sum f xs ≡ distinct_sum f ys
distinct_sum-occur f xs ys same =
    omega (arith, distinct_sum-within f xs ys (λ k h. sym (same k) ∙ h), distinct_sum-within f ys xs (λ k h. same k ∙ h))
