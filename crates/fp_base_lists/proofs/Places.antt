-- Where numbers stand among others in ascending order.
use Rattle.std.proofs.Common.{◌≡◌, ℕ, zero, suc, ◌+◌, ◌-◌, ◌<◌, ◌≤◌, true, false, List, [], ◌∷◌, length, get_or, ⊎_elim, refl, sym, ap, ◌∙◌, subst, arith}
use Rattle.std.specs.Prelude.{AllPairs}
use Rattle.std.specs.List.{insert}
use Rattle.std.proofs.lemmas.Bool.{both_ways, cases_eq, cases_lt, false_from_ne_true, le-ltb, lt-ltb}
use Rattle.std.proofs.lemmas.List.{get_or_default}
use Rattle.std.proofs.lemmas.List.Edits.{length-insert, get_or-insert_below, get_or-insert_at, get_or-insert_above}
use Rattle.fp_base_lists.specs.Ascending.{IsPlaceIn, place_in}
use Rattle.fp_base_lists.specs.Membership.{list_has}
use Rattle.fp_base_lists.proofs.Membership.{StandsAt, StandsAt-from_list_has, list_has-cons_cases, list_has-first, list_has-get_or, list_has-rest}
use Rattle.fp_base_lists.proofs.Pairs.{AllPairs-tail}
use Rattle.fp_base_lists.proofs.Truth.{Bool-from_both}

-- where the first ones are below the number and the others not, that many are below it
pub place_in-unique : (numbers : List ℕ) (n place : ℕ) → IsPlaceIn numbers n place → place_in numbers n ≡ place
place_in-unique [] n place is = omega (arith, is.within)
place_in-unique (m ∷ numbers) n zero is =
    let late : n ≤ m = is.above 0 0 (omega arith) (omega arith) in
    let rest : place_in numbers n ≡ 0 =
    place_in-unique numbers n 0 (record {
      within = omega arith;
      below = λ k d h. absurd (omega arith);
      above = λ k d from h. is.above (suc k) d (omega arith) (omega arith);
    }) in
    rw (le-ltb m n late) rest
place_in-unique (m ∷ numbers) n (suc place) is =
    let early : m < n = is.below 0 0 (omega arith) in
    let rest : place_in numbers n ≡ place =
    place_in-unique numbers n place (record {
      within = omega (arith, is.within);
      below = λ k d h. is.below (suc k) d (omega arith);
      above = λ k d from h. is.above (suc k) d (omega arith) (omega arith);
    }) in
    rw (lt-ltb m n early) (omega (arith, rest))

-- where none is below the number its place is the first
place_in-none : (numbers : List ℕ) (n : ℕ) → ((k d : ℕ) → k < length numbers → n ≤ get_or numbers k d) → place_in numbers n ≡ 0
place_in-none numbers n late =
    place_in-unique numbers n 0 (record { within = omega arith; below = λ k d h. absurd (omega arith); above = λ k d from h. late k d h })

-- among ascending numbers those below one are the first ones
pub IsPlaceIn-place_in : (numbers : List ℕ) (n : ℕ) → AllPairs (λ a b. a < b) numbers → IsPlaceIn numbers n (place_in numbers n)
IsPlaceIn-place_in [] n up = record { within = omega arith; below = λ k d h. absurd (omega arith); above = λ k d from h. absurd (omega arith) }
IsPlaceIn-place_in (m ∷ numbers) n up =
    let rest : IsPlaceIn numbers n (place_in numbers n) = IsPlaceIn-place_in numbers n (AllPairs-tail (λ a b. a < b) m numbers up) in
    ⊎_elim
    (λ (early : m < n). rw (lt-ltb m n early) (one-more early rest))
    (λ (late : n ≤ m).
    let none : place_in numbers n ≡ 0 = place_in-none numbers n (λ k d h. omega (arith, up 0 (suc k) d (omega arith) (omega arith), late)) in
    rw (le-ltb m n late, none) (record { within = omega arith; below = λ k d h. absurd (omega arith); above = from-first late }))
    (cases_lt m n)
  where
    one-more : m < n → IsPlaceIn numbers n (place_in numbers n) → IsPlaceIn (m ∷ numbers) n (suc (place_in numbers n))
    one-more early rest = record { within = omega (arith, rest.within); below = first early rest; above = later rest }
      where
        first : m < n → IsPlaceIn numbers n (place_in numbers n) → (k d : ℕ) → k < suc (place_in numbers n) → get_or (m ∷ numbers) k d < n
        first e r zero d h = e
        first e r (suc k) d h = r.below k d (omega arith)

        later : IsPlaceIn numbers n (place_in numbers n) → (k d : ℕ) → suc (place_in numbers n) ≤ k → k < length (m ∷ numbers) → n ≤ get_or (m ∷ numbers) k d
        later r zero d from h = absurd (omega arith)
        later r (suc k) d from h = r.above k d (omega arith) (omega arith)

    from-first : n ≤ m → (k d : ℕ) → 0 ≤ k → k < length (m ∷ numbers) → n ≤ get_or (m ∷ numbers) k d
    from-first late zero d from h = late
    from-first late (suc k) d from h = omega (arith, up 0 (suc k) d (omega arith) (omega arith), late)

-- the place of what stands at a place
pub place_in-get_or : (numbers : List ℕ) (k d : ℕ) → AllPairs (λ a b. a < b) numbers → k < length numbers → place_in numbers (get_or numbers k d) ≡ k
place_in-get_or numbers k d up h =
    place_in-unique numbers (get_or numbers k d) k (record {
      within = omega arith;
      below = λ i e less. omega (arith, up i k e less h, get_or_default numbers k d e h);
      above = λ i e from w.
          ⊎_elim
          (λ (less : k < i). omega (arith, up k i e less w, get_or_default numbers k d e h))
          (λ (more : i ≤ k). let same : i ≡ k = omega arith in rw same (omega (arith, get_or_default numbers k d e h)))
          (cases_lt k i);
    })

-- a number that is among them stands at its place
pub get_or-place_in : (numbers : List ℕ) (n : ℕ) → AllPairs (λ a b. a < b) numbers → list_has numbers n ≡ true →
    (place_in numbers n < length numbers) × ((d : ℕ) → get_or numbers (place_in numbers n) d ≡ n)
get_or-place_in numbers n up has =
    let w = StandsAt-from_list_has numbers n has in
    let same : place_in numbers n ≡ w.place = ap (place_in numbers) (sym (w.is 0)) ∙ place_in-get_or numbers w.place 0 up w.within in
    (omega (arith, same, w.within), λ d. rw same (w.is d))

-- a number whose place has another one, or none, is not among them
pub list_has-not_at_place : (numbers : List ℕ) (n k : ℕ) → AllPairs (λ a b. a < b) numbers → IsPlaceIn numbers n k →
    (k < length numbers → get_or numbers k 0 ≡ n → ⊥) → list_has numbers n ≡ false
list_has-not_at_place numbers n k up is other =
    false_from_ne_true (list_has numbers n)
    (λ has.
    let same : place_in numbers n ≡ k = place_in-unique numbers n k is in
    let there = get_or-place_in numbers n up has in
    other (omega (arith, same, there.0)) (ap (λ (i : ℕ). get_or numbers i 0) (sym same) ∙ there.1 0))

-- a lesser number that is among them stands before the place of one that isn't
pub StandsAt-before_place : (numbers : List ℕ) (n k m : ℕ) → IsPlaceIn numbers n k → list_has numbers n ≡ false → (w : StandsAt numbers m) → m ≤ n →
    w.place < k
StandsAt-before_place numbers n k m is none w le =
    ⊎_elim
    (λ (less : w.place < k). less)
    (λ (more : k ≤ w.place).
    let same : m ≡ n = omega (arith, is.above w.place 0 more w.within, w.is 0) in
    let has : list_has numbers n ≡ true = subst (λ (i : ℕ). list_has numbers i ≡ true) (w.is 0 ∙ same) (list_has-get_or numbers w.place 0 w.within) in
    absurd (both_ways (list_has numbers n) none has))
    (cases_lt w.place k)

-- of two numbers among them the lesser stands before the other
pub place_in-lt : (numbers : List ℕ) (m n : ℕ) → AllPairs (λ a b. a < b) numbers → list_has numbers m ≡ true → list_has numbers n ≡ true → m < n →
    place_in numbers m < place_in numbers n
place_in-lt numbers m n up first second less =
    let here = get_or-place_in numbers m up first in
    let there = get_or-place_in numbers n up second in
    ⊎_elim
    (λ (before : place_in numbers m < place_in numbers n). before)
    (λ (after : place_in numbers n ≤ place_in numbers m).
    ⊎_elim
    (λ (late : place_in numbers n < place_in numbers m). absurd (omega (arith, up (place_in numbers n) (place_in numbers m) 0 late here.0, here.1 0, there.1 0)))
    (λ (not_late : place_in numbers m ≤ place_in numbers n).
    let same : place_in numbers m ≡ place_in numbers n = omega arith in
    absurd (omega (arith, here.1 0, there.1 0, ap (λ (i : ℕ). get_or numbers i 0) same)))
    (cases_lt (place_in numbers n) (place_in numbers m)))
    (cases_lt (place_in numbers m) (place_in numbers n))

-- and one that is no greater does not stand after it
pub place_in_mono : (numbers : List ℕ) (m n : ℕ) → AllPairs (λ a b. a < b) numbers → list_has numbers m ≡ true → list_has numbers n ≡ true → m ≤ n →
    place_in numbers m ≤ place_in numbers n
place_in_mono numbers m n up first second until =
    ⊎_elim
    (λ (less : m < n). omega (arith, place_in-lt numbers m n up first second less))
    (λ (not_less : n ≤ m). let same : m ≡ n = omega arith in omega (arith, ap (λ (i : ℕ). place_in numbers i) same))
    (cases_lt m n)

-- the first of ascending numbers is below the others
pub first-lt : (m : ℕ) (numbers : List ℕ) (n : ℕ) → AllPairs (λ a b. a < b) (m ∷ numbers) → list_has numbers n ≡ true → m < n
first-lt m numbers n up has =
    let w = StandsAt-from_list_has numbers n has in
    omega (arith, up 0 (suc w.place) 0 (omega arith) (omega (arith, w.within)), w.is 0)

-- ascending numbers are at least their places
pub place-le-get_or : (numbers : List ℕ) (k : ℕ) → AllPairs (λ a b. a < b) numbers → k < length numbers → k ≤ get_or numbers k 0
place-le-get_or numbers zero up h = omega arith
place-le-get_or numbers (suc k) up h = omega (arith, place-le-get_or numbers k up (omega arith), up k (suc k) 0 (omega arith) h)

-- what two lists have beside their equal first numbers
rest-of : (m n : ℕ) (ms ns : List ℕ) (i : ℕ) → AllPairs (λ a b. a < b) (m ∷ ms) → m ≡ n → ((j : ℕ) → list_has (m ∷ ms) j ≡ list_has (n ∷ ns) j) →
    list_has ms i ≡ true → list_has ns i ≡ true
rest-of m n ms ns i up is same has =
    ⊎_elim
    (λ (first : n ≡ i). absurd (omega (arith, first-lt m ms i up has, first, is)))
    (λ (rest : list_has ns i ≡ true). rest)
    (list_has-cons_cases n ns i (sym (same i) ∙ list_has-rest m ms i has))

-- ascending lists with the same numbers are the same
pub ascending-unique : (ms ns : List ℕ) → AllPairs (λ a b. a < b) ms → AllPairs (λ a b. a < b) ns → ((i : ℕ) → list_has ms i ≡ list_has ns i) → ms ≡ ns
ascending-unique [] [] up upper same = refl
ascending-unique [] (n ∷ ns) up upper same = let there : list_has [] n ≡ true = same n ∙ list_has-first n ns in cc
ascending-unique (m ∷ ms) [] up upper same = let there : list_has [] m ≡ true = sym (same m) ∙ list_has-first m ms in cc
ascending-unique (m ∷ ms) (n ∷ ns) up upper same =
    let first : m ≡ n =
    ⊎_elim
    (λ (e : n ≡ m). sym e)
    (λ (later : list_has ns m ≡ true).
    ⊎_elim
    (λ (e : m ≡ n). e)
    (λ (late : list_has ms n ≡ true). absurd (omega (arith, first-lt n ns m upper later, first-lt m ms n up late)))
    (list_has-cons_cases m ms n (same n ∙ list_has-first n ns)))
    (list_has-cons_cases n ns m (sym (same m) ∙ list_has-first m ms)) in
    let rest : ms ≡ ns =
    ascending-unique ms ns (AllPairs-tail (λ a b. a < b) m ms up) (AllPairs-tail (λ a b. a < b) n ns upper)
    (λ i. Bool-from_both (list_has ms i) (list_has ns i) (rest-of m n ms ns i up first same) (rest-of n m ns ms i upper (sym first) (λ j. sym (same j)))) in
    ap (λ (k : ℕ). k ∷ ms) first ∙ ap (λ (l : List ℕ). n ∷ l) rest

-- a new number put in at its place leaves the numbers in ascending order
pub ascending-insert : (numbers : List ℕ) (n : ℕ) → AllPairs (λ a b. a < b) numbers → list_has numbers n ≡ false →
    AllPairs (λ a b. a < b) (insert numbers (place_in numbers n) n)
ascending-insert numbers n ascends new i j d less h =
    ⊎_elim
    (λ (first : i < place).
    ⊎_elim
    (λ (second : j < place). omega (arith, low i d first, low j d second, ascends i j d less (omega (arith, is.within))))
    (λ (second : place ≤ j).
    ⊎_elim
    (λ (same : j ≡ place). rw same (omega (arith, low i d first, here d, is.below i d first)))
    (λ (other : j ≡ place → ⊥).
    let past : place < j = omega (arith, other) in
    omega (arith, low i d first, high j d past, is.below i d first, after (j - 1) d (omega arith) (omega (arith, long))))
    (cases_eq j place))
    (cases_lt j place))
    (λ (first : place ≤ i).
    ⊎_elim
    (λ (same : i ≡ place).
    let past : place < j = omega arith in rw same (omega (arith, here d, high j d past, after (j - 1) d (omega arith) (omega (arith, long)))))
    (λ (other : i ≡ place → ⊥).
    let past : place < i = omega (arith, other) in
    let far : place < j = omega arith in omega (arith, high i d past, high j d far, ascends (i - 1) (j - 1) d (omega arith) (omega (arith, long))))
    (cases_eq i place))
    (cases_lt i place)
  where
    place : ℕ
    place = place_in numbers n

    is : IsPlaceIn numbers n place
    is = IsPlaceIn-place_in numbers n ascends

    after : (k d : ℕ) → place ≤ k → k < length numbers → n < get_or numbers k d
    after k d from h =
        ⊎_elim
        (λ (less : n < get_or numbers k d). less)
        (λ (more : get_or numbers k d ≤ n).
        let same : get_or numbers k d ≡ n = omega (arith, is.above k d from h, more) in
        absurd (let there : list_has numbers n ≡ true = subst (λ (m : ℕ). list_has numbers m ≡ true) same (list_has-get_or numbers k d h) in cc))
        (cases_lt n (get_or numbers k d))

    here : (d : ℕ) → get_or (insert numbers place n) place d ≡ n
    here d = get_or-insert_at numbers place n d is.within

    long : length (insert numbers place n) ≡ length numbers + 1
    long = length-insert numbers place n is.within

    -- what stands before the place and after it
    low : (k d : ℕ) → k < place → get_or (insert numbers place n) k d ≡ get_or numbers k d
    low k d h = get_or-insert_below numbers place n d k h is.within

    high : (k d : ℕ) → place < k → get_or (insert numbers place n) k d ≡ get_or numbers (k - 1) d
    high k d h =
        let e : k ≡ (k - 1) + 1 = omega arith in
        ap (λ (m : ℕ). get_or (insert numbers place n) m d) e ∙ get_or-insert_above numbers place n d (k - 1) (omega arith) is.within
