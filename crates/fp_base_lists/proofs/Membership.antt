-- What is among the elements of a list.
use Rattle.std.proofs.Common.{◌≡◌, ℕ, zero, suc, ◌+◌, ◌<◌, Bool, true, false, ◌||◌, ◌&&◌, List, [], ◌∷◌, ◌++◌, ◌⊎◌, length, get_or, take, map, filter, refl, sym, ap, ◌∙◌, ⊎_elim, inl, inr, arith, ◌≢◌, subst}
use Rattle.std.specs.Prelude.{Contains, nat_eq, insert}
use Rattle.std.proofs.Math.Bool.{or-false}
use Rattle.std.proofs.lemmas.Bool.{cases_Bool, eq-eqb, eqb-true, or_cases, or_left, or_right, false≢true, or_parts}
use Rattle.std.proofs.lemmas.List.{map-append, take_more}
use Rattle.std.proofs.lemmas.List.Elements.{filter-append}
use Rattle.std.proofs.lemmas.List.Folds.{list_any-append, list_any_at}
use Rattle.std.proofs.lemmas.List.Sorted.{IsPermutation-insert, list_any-IsPermutation}
use Rattle.fp_base_lists.specs.Membership.{list_has}
use Rattle.std.specs.List.{AllByRecursion}

-- an element of a list is its first or one of the rest
pub Contains-cons_cases : {X : Type 0} (y : X) (ys : List X) (x : X) → Contains (y ∷ ys) x → (y ≡ x) ⊎ Contains ys x
Contains-cons_cases y ys x (zero, lt, is) = inl is
Contains-cons_cases y ys x (suc k, lt, is) = inr (k, omega (arith, lt), is)

-- a list contains its first element
pub Contains-first : {X : Type 0} (y : X) (ys : List X) → Contains (y ∷ ys) y
Contains-first y ys = (0, omega arith, refl)

-- a number of a list is its first or one of the rest
pub list_has-cons_cases : (m : ℕ) (numbers : List ℕ) (n : ℕ) → list_has (m ∷ numbers) n ≡ true → (m ≡ n) ⊎ (list_has numbers n ≡ true)
list_has-cons_cases m numbers n has =
    ⊎_elim
    (λ (here : nat_eq m n ≡ true). inl (eqb-true m n here))
    (λ (later : list_has numbers n ≡ true). inr later)
    (or_cases (nat_eq m n) (list_has numbers n) has)

-- a list has its first number
pub list_has-first : (n : ℕ) (numbers : List ℕ) → list_has (n ∷ numbers) n ≡ true
list_has-first n numbers = or_left (nat_eq n n) (list_has numbers n) (eq-eqb n n refl)

-- and what the rest has
pub list_has-rest : (m : ℕ) (numbers : List ℕ) (n : ℕ) → list_has numbers n ≡ true → list_has (m ∷ numbers) n ≡ true
list_has-rest m numbers n has = or_right (nat_eq m n) (list_has numbers n) has

-- a list has the number at each place
pub list_has-get_or : (numbers : List ℕ) (k d : ℕ) → k < length numbers → list_has numbers (get_or numbers k d) ≡ true
list_has-get_or numbers k d lt = list_any_at (λ n. nat_eq n (get_or numbers k d)) numbers k d lt (eq-eqb (get_or numbers k d) (get_or numbers k d) refl)

-- two lists together have what either has
pub list_has-append : (numbers more : List ℕ) (n : ℕ) → list_has (numbers ++ more) n ≡ (list_has numbers n || list_has more n)
list_has-append numbers more n = list_any-append (λ m. nat_eq m n) numbers more

-- one more number in front, wherever it is put in
pub list_has-insert : (numbers : List ℕ) (k m n : ℕ) → list_has (insert numbers k m) n ≡ list_has (m ∷ numbers) n
list_has-insert numbers k m n =
    sym (list_any-IsPermutation (λ x. nat_eq x n) (m ∷ numbers) (insert numbers k m) (IsPermutation-insert numbers k m))

-- one more number of a front part
pub list_has-take_more : (numbers : List ℕ) (i n : ℕ) → i < length numbers →
    list_has (take (i + 1) numbers) n ≡ (list_has (take i numbers) n || nat_eq (get_or numbers i 0) n)
list_has-take_more numbers i n lt =
    ap (λ (l : List ℕ). list_has l n) (take_more numbers i 0 lt) ∙
    list_has-append (take i numbers) (get_or numbers i 0 ∷ []) n ∙
    ap (λ (b : Bool). list_has (take i numbers) n || b) (or-false (nat_eq (get_or numbers i 0) n))

-- where a number stands in a list
pub record StandsAt (numbers : List ℕ) (n : ℕ) : Type 0 where
  pub place : ℕ
  pub within : place < length numbers
  pub is : (d : ℕ) → get_or numbers place d ≡ n

-- a number that a list has stands somewhere in it
pub StandsAt-from_list_has : (numbers : List ℕ) (n : ℕ) → list_has numbers n ≡ true → StandsAt numbers n
StandsAt-from_list_has [] n has = cc
StandsAt-from_list_has (m ∷ numbers) n has =
    ⊎_elim
    (λ (same : m ≡ n). record { place = 0; within = omega arith; is = λ d. same })
    (λ (rest : list_has numbers n ≡ true).
    let there = StandsAt-from_list_has numbers n rest in
    record { place = suc there.place; within = omega (arith, there.within); is = λ d. there.is d })
    (list_has-cons_cases m numbers n has)

-- one more element at the end gives one more number where it is kept
pub list_has-filter_push : {X : Type 0} (kept : X → Bool) (f : X → ℕ) (xs : List X) (x : X) (n : ℕ) →
    list_has (map f (filter kept (xs ++ x ∷ []))) n ≡ (list_has (map f (filter kept xs)) n || (kept x && nat_eq (f x) n))
list_has-filter_push kept f xs x n =
    ap (λ l. list_has (map f l) n) (filter-append kept xs (x ∷ [])) ∙
    ap (λ (numbers : List ℕ). list_has numbers n) (map-append f (filter kept xs) (filter kept (x ∷ []))) ∙
    list_has-append (map f (filter kept xs)) (map f (filter kept (x ∷ []))) n ∙
    ap (λ (b : Bool). list_has (map f (filter kept xs)) n || b) one
  where
    one : list_has (map f (filter kept (x ∷ []))) n ≡ (kept x && nat_eq (f x) n)
    one = ⊎_elim (λ (e : kept x ≡ true). rw e (or-false (nat_eq (f x) n))) (λ (e : kept x ≡ false). rw e refl) (cases_Bool (kept x))

-- the value of an element that is kept is among the values
pub list_has-filter : {X : Type 0} (kept : X → Bool) (f : X → ℕ) (xs : List X) (k : ℕ) (d : X) → k < length xs → kept (get_or xs k d) ≡ true →
    list_has (map f (filter kept xs)) (f (get_or xs k d)) ≡ true
list_has-filter kept f [] k d lt is = absurd (omega (arith, lt))
list_has-filter kept f (x ∷ xs) zero d lt is = rw is (list_has-first (f x) (map f (filter kept xs)))
list_has-filter kept f (x ∷ xs) (suc k) d lt is =
    let rest : list_has (map f (filter kept xs)) (f (get_or xs k d)) ≡ true = list_has-filter kept f xs k d (omega (arith, lt)) is in
    ⊎_elim
    (λ (e : kept x ≡ true). rw e (list_has-rest (f x) (map f (filter kept xs)) (f (get_or xs k d)) rest))
    (λ (e : kept x ≡ false). rw e rest)
    (cases_Bool (kept x))

-- what is told of each number of a list holds of one that the list has
pub AllByRecursion-list_has : (P : ℕ → Type 0) (numbers : List ℕ) (n : ℕ) → AllByRecursion P numbers → list_has numbers n ≡ true → P n
AllByRecursion-list_has P [] n all has = absurd (false≢true has)
AllByRecursion-list_has P (m ∷ numbers) n all has =
    ⊎_elim
    (λ (here : m ≡ n). subst P here all.0)
    (λ (later : list_has numbers n ≡ true). AllByRecursion-list_has P numbers n all.1 later)
    (list_has-cons_cases m numbers n has)

-- a number that a list doesn't have differs from each of its
pub list_has-apart : (numbers : List ℕ) (n : ℕ) → list_has numbers n ≡ false → AllByRecursion (λ m. m ≢ n) numbers
list_has-apart [] n none = tt
list_has-apart (m ∷ numbers) n none =
    let parts = or_parts (nat_eq m n) (list_has numbers n) none in
    ((λ (e : m ≡ n). false≢true (sym parts.0 ∙ eq-eqb m n e)), list_has-apart numbers n parts.1)
