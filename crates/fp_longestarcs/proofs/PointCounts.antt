-- How many points a network has.
use Rattle.std.proofs.Common.{◌≡◌, ℕ, zero, suc, ◌+◌, ◌<◌, ◌≤◌, Bool, true, false, ◌&&◌, cond, List, [], ◌∷◌, ◌++◌, length, get_or, filter, ⊎_elim, refl, ap, subst, arith}
use Rattle.std.specs.Prelude.{nat_eq, nat_le, sum_by}
use Rattle.std.specs.List.{AllPairs, insert, range_with_len}
use Rattle.std.proofs.lemmas.Bool.{cases_Bool, cases_eq, eq-eqb, ne_eqb, eqb-true, and_parts, false_from_ne_true, cond-true, cond-false}
use Rattle.std.proofs.lemmas.List.{length-append, length-map}
use Rattle.std.proofs.lemmas.List.Edits.{length-insert}
use Rattle.std.proofs.lemmas.List.Sums.{sum_by-set, sum_by-cons, sum_by-le-sum_by}
use Rattle.fp_base_lists.proofs.Pairs.{AllPairs-tail}
use Rattle.fp_base_lists.proofs.Sums.{sum_by-both}
use Rattle.fp_timenodes.specs.declared.places.Place.{Place}
use Rattle.fp_timenodes.specs.declared.places.AddedPoint.{AddedPoint}
use Rattle.fp_timenodes.specs.declared.places.TheConstants.{LATEST}
use Rattle.fp_timenodes.specs.Floor.{HaveSamePoints}
use Rattle.fp_base_lists.specs.Membership.{list_has}
use Rattle.fp_timenodes.specs.Points.{TimePoints, points_at, times_at, added_at}
use Rattle.fp_longestarcs.specs.Ascending.{ArePoints}
use Rattle.fp_base_lists.specs.Ascending.{IsPlaceIn, place_in}
use Rattle.fp_longestarcs.specs.Networks.{TimedNetwork, IsNetwork, points_in, point_count}
use Rattle.fp_longestarcs.specs.Changes.{extended_points}
use Rattle.fp_base_lists.proofs.Places.{IsPlaceIn-place_in, first-lt}

-- a new point is one more
pub count-with : (net : TimedNetwork) (terminal at : ℕ) → IsNetwork net → terminal < length net.points → sum_by (λ (qs : List ℕ). length qs) (extended_points net terminal at) ≡ point_count net + 1
count-with net terminal at valid within =
    let qs : List ℕ = points_in net terminal in
    let are : ArePoints qs = valid.points terminal [] within in
    let place : IsPlaceIn qs at (place_in qs at) = IsPlaceIn-place_in qs at are.ascending in
    omega (
      arith,
      sum_by-set (λ (l : List ℕ). length l) net.points terminal (insert qs (place_in qs at) at) [] within,
      length-insert qs (place_in qs at) at place.within,
    )

-- how many of the times below a limit are points
abbrev points_below : List ℕ → ℕ → ℕ
points_below qs zero = 0
points_below qs (suc n) = cond (list_has qs n) 1 0 + points_below qs n

-- lists with the same points have as many below a limit
same-below : (ps qs : List ℕ) (n : ℕ) → HaveSamePoints ps qs → points_below ps n ≡ points_below qs n
same-below ps qs zero same = refl
same-below ps qs (suc n) same = omega (arith, ap {B = ℕ} (λ (b : Bool). cond b 1 0) (same n), same-below ps qs n same)

-- a time that is not below the limit does not count
late-below : (q : ℕ) (qs : List ℕ) (n : ℕ) → n ≤ q → points_below (q ∷ qs) n ≡ points_below qs n
late-below q qs zero h = refl
late-below q qs (suc n) h = let other : nat_eq q n ≡ false = ne_eqb q n (omega arith) in rw other (omega (arith, late-below q qs n (omega arith)))

-- one more in the list is at most one more
below-le : (q : ℕ) (qs : List ℕ) (n : ℕ) → points_below (q ∷ qs) n ≤ 1 + points_below qs n
below-le q qs zero = omega arith
below-le q qs (suc n) =
    ⊎_elim
    (λ (same : q ≡ n). rw (eq-eqb q n same) (omega (arith, late-below q qs n (omega arith))))
    (λ (other : q ≡ n → ⊥). rw (ne_eqb q n other) (omega (arith, below-le q qs n)))
    (cases_eq q n)

-- and one that was not in it is one more
below-more : (q : ℕ) (qs : List ℕ) (n : ℕ) → list_has qs q ≡ false → q < n → points_below (q ∷ qs) n ≡ 1 + points_below qs n
below-more q qs zero new h = absurd (omega arith)
below-more q qs (suc n) new h =
    ⊎_elim
    (λ (same : q ≡ n).
    let none : list_has qs n ≡ false = subst (λ (m : ℕ). list_has qs m ≡ false) same new in
    rw (eq-eqb q n same, none) (omega (arith, late-below q qs n (omega arith))))
    (λ (other : q ≡ n → ⊥). rw (ne_eqb q n other) (omega (arith, below-more q qs n new (omega arith))))
    (cases_eq q n)

-- so a list has at least as many elements as points
below-length : (qs : List ℕ) (n : ℕ) → points_below qs n ≤ length qs
below-length [] zero = omega arith
below-length [] (suc n) = omega (arith, below-length [] n)
below-length (q ∷ qs) n = omega (arith, below-le q qs n, below-length qs n)

-- and an ascending one as many
length-below : (qs : List ℕ) (n : ℕ) → AllPairs (λ a b. a < b) qs → ((k : ℕ) → k < length qs → get_or qs k 0 < n) → length qs ≡ points_below qs n
length-below [] zero up within = refl
length-below [] (suc n) up within = omega (arith, length-below [] n up (λ k h. absurd (omega arith)))
length-below (q ∷ qs) n up within =
    let new : list_has qs q ≡ false = false_from_ne_true (list_has qs q) (λ there. absurd (omega (arith, first-lt q qs q up there))) in
    omega (arith, below-more q qs n new (within 0 (omega arith)), length-below qs n (AllPairs-tail (λ a b. a < b) q qs up) (λ k h. within (suc k) (omega arith)))

-- an ascending list is no longer than any list with the same points
within-limit : (ps qs : List ℕ) (n : ℕ) → AllPairs (λ a b. a < b) ps → ((k : ℕ) → k < length ps → get_or ps k 0 < n) → HaveSamePoints ps qs → length ps ≤ length qs
within-limit ps qs n up within same = omega (arith, length-below ps n up within, same-below ps qs n same, below-length qs n)

-- the points of a terminal are no more than any list of them has
points-le : (ps qs : List ℕ) → ArePoints ps → HaveSamePoints ps qs → length ps ≤ length qs
points-le ps qs are same = within-limit ps qs (LATEST + 1) are.ascending (λ k h. omega (arith, are.in_time k 0 h)) same

-- none of a range from later on is this number
sum-past : (x a n : ℕ) → x < a → sum_by (λ t. cond (nat_eq x t) 1 0) (range_with_len a n) ≡ 0
sum-past x a zero h = refl
sum-past x a (suc n) h =
    omega (
      arith,
      sum_by-cons (λ t. cond (nat_eq x t) 1 0) a (range_with_len (a + 1) n),
      cond-false {A = ℕ} (nat_eq x a) 1 0 (ne_eqb x a (omega arith)),
      sum-past x (a + 1) n (omega arith),
    )

-- at most one of a range is
sum-one : (x a n : ℕ) → sum_by (λ t. cond (nat_eq x t) 1 0) (range_with_len a n) ≤ 1
sum-one x a zero = omega arith
sum-one x a (suc n) =
    ⊎_elim
    (λ (same : x ≡ a).
    omega (arith, sum_by-cons (λ t. cond (nat_eq x t) 1 0) a (range_with_len (a + 1) n), cond-true {A = ℕ} (nat_eq x a) 1 0 (eq-eqb x a same), sum-past x (a + 1) n (omega arith)))
    (λ (other : x ≡ a → ⊥).
    omega (arith, sum_by-cons (λ t. cond (nat_eq x t) 1 0) a (range_with_len (a + 1) n), cond-false {A = ℕ} (nat_eq x a) 1 0 (ne_eqb x a other), sum-one x (a + 1) n))
    (cases_eq x a)

-- elements that are kept at one key each are kept at most once
kept-once : {X : Type 0} (key : X → ℕ) (pass : ℕ → X → Bool) (xs : List X) (n : ℕ) → ((t : ℕ) (x : X) → pass t x ≡ true → key x ≡ t) →
    sum_by (λ t. length (filter (pass t) xs)) (range_with_len 0 n) ≤ length xs
kept-once key pass [] n tells = omega (arith, sum_by-zero (range_with_len 0 n))
  where
    sum_by-zero : (ts : List ℕ) → sum_by (λ t. 0) ts ≡ 0
    sum_by-zero [] = refl
    sum_by-zero (t ∷ ts) = omega (arith, sum_by-cons (λ (m : ℕ). 0) t ts, sum_by-zero ts)
kept-once {X = X} key pass (x ∷ xs) n tells =
    let ts : List ℕ = range_with_len 0 n in
    let here : ℕ → ℕ = λ t. cond (nat_eq (key x) t) 1 0 in
    let rest : ℕ → ℕ = λ t. length (filter (pass t) xs) in
    omega (
      arith,
      sum_by-le-sum_by (λ t. length (filter (pass t) (x ∷ xs))) (λ t. here t + rest t) ts one,
      sum_by-both here rest ts,
      sum-one (key x) 0 n,
      kept-once key pass xs n tells,
    )
  where
    one : (t : ℕ) → length (filter (pass t) (x ∷ xs)) ≤ cond (nat_eq (key x) t) 1 0 + length (filter (pass t) xs)
    one t =
        ⊎_elim
        (λ (keeps : pass t x ≡ true). rw (keeps, eq-eqb (key x) t (tells t x keeps)) (omega arith))
        (λ (drops : pass t x ≡ false). rw drops (omega arith))
        (cases_Bool (pass t x))

-- lists that are each at most so long
sum-lengths : (lists : List (List ℕ)) (g : ℕ → ℕ) (a : ℕ) → ((k t : ℕ) → k < length lists → a + k ≡ t → length (get_or lists k []) ≤ g t) →
    sum_by (λ (l : List ℕ). length l) lists ≤ sum_by g (range_with_len a (length lists))
sum-lengths [] g a each = omega arith
sum-lengths (l ∷ lists) g a each =
    omega (
      arith,
      sum_by-cons (λ (k : List ℕ). length k) l lists,
      sum_by-cons g a (range_with_len (a + 1) (length lists)),
      each 0 a (omega arith) (omega arith),
      sum-lengths lists g (a + 1) (λ k t h e. each (suc k) t (omega arith) (omega arith)),
    )

-- a network with the points as of a round has no more points than there are zeros, places of the
-- start and added points
pub count-made : (v : TimePoints) (round : ℕ) (net : TimedNetwork) → IsNetwork net → ((terminal : ℕ) → terminal < length net.points → HaveSamePoints (points_in net terminal) (points_at v terminal round)) →
    point_count net ≤ length net.points + length v.first + length v.added
count-made v round net valid same =
    let n : ℕ = length net.points in
    let ts : List ℕ = range_with_len 0 n in
    let first : ℕ → ℕ = λ t. length (filter (λ (p : Place). nat_eq p.terminal t) v.first) in
    let added : ℕ → ℕ = λ t. length (filter (λ (p : AddedPoint). nat_eq p.terminal t && nat_le p.round round) v.added) in
    omega (
      arith,
      sum-lengths net.points (λ t. first t + (added t + 1)) 0 (λ k t h e. let is : k ≡ t = omega arith in subst (λ (m : ℕ). length (points_in net k) ≤ first m + (added m + 1)) is (omega (arith, points-le (points_in net k) (points_at v k round) (valid.points k [] h) (same k h), parts k))),
      sum_by-both first (λ t. added t + 1) ts,
      sum_by-both added (λ t. 1) ts,
      kept-once (λ (p : Place). p.terminal) (λ t p. nat_eq p.terminal t) v.first n (λ t p h. eqb-true p.terminal t h),
      kept-once (λ (p : AddedPoint). p.terminal) (λ t p. nat_eq p.terminal t && nat_le p.round round) v.added n (λ t p h. eqb-true p.terminal t (and_parts (nat_eq p.terminal t) (nat_le p.round round) h).0),
      ones 0 n,
    )
  where
    parts : (t : ℕ) → length (points_at v t round) ≡ length (filter (λ (p : Place). nat_eq p.terminal t) v.first) + (length (filter (λ (p : AddedPoint). nat_eq p.terminal t && nat_le p.round round) v.added) + 1)
    parts t =
        omega (
          arith,
          length-append (times_at v.first t) (added_at v.added t round ++ 0 ∷ []),
          length-append (added_at v.added t round) (0 ∷ []),
          length-map (filter (λ (p : Place). nat_eq p.terminal t) v.first) (λ (p : Place). p.at),
          length-map (filter (λ (p : AddedPoint). nat_eq p.terminal t && nat_le p.round round) v.added) (λ (p : AddedPoint). p.at),
        )

    ones : (a n : ℕ) → sum_by (λ t. 1) (range_with_len a n) ≡ n
    ones a zero = refl
    ones a (suc n) = omega (arith, sum_by-cons (λ (m : ℕ). 1) a (range_with_len (a + 1) n), ones (a + 1) n)
