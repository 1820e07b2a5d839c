-- Where a time stands among points in ascending order, and what putting it there does.
use Rattle.std.proofs.Common.{◌≡◌, ℕ, zero, ◌-◌, ◌*◌, ◌<◌, ◌≤◌, true, false, max, List, ◌∷◌, length, get_or, ⊎_elim, sym, ap, ◌∙◌, subst, arith}
use Rattle.std.specs.Prelude.{nat_le, nat_eq}
use Rattle.std.specs.List.{insert}
use Rattle.std.proofs.lemmas.Bool.{cases_lt, cases_eq, le-leb, lt-leb, eq-eqb, ne_eqb, cond-true, cond-false}
use Rattle.std.proofs.lemmas.List.Sorted.{All-permutation, IsPermutation-insert}
use Rattle.std.proofs.lemmas.List.Elements.{All-cons}
use Rattle.fp_base_lists.proofs.Membership.{StandsAt, StandsAt-from_list_has, list_has-get_or, list_has-insert, list_has-rest}
use Rattle.fp_base_lists.proofs.Places.{ascending-insert, list_has-not_at_place, StandsAt-before_place}
use Rattle.fp_timenodes.specs.Floor.{floor_point}
use Rattle.fp_base_lists.specs.Membership.{list_has}
use Rattle.fp_timenodes.specs.declared.places.TheConstants.{LATEST}
use Rattle.fp_timenodes.proofs.Floors.{floor_is, floor_same}
use Rattle.fp_longestarcs.specs.Ascending.{ArePoints}
use Rattle.fp_base_lists.specs.Ascending.{IsPlaceIn, place_in}

-- with a point that is early enough the greatest is at least that point
pub floor-with : (qs : List ℕ) (k at n : ℕ) → at ≤ n → floor_point (insert qs k at) 1 n ≡ max at (floor_point qs 1 n)
floor-with qs k at n h =
    floor_same (insert qs k at) (at ∷ qs) 1 n (list_has-insert qs k at) ∙
    ap (λ (m : ℕ). max m (floor_point qs 1 n)) (cond-true (nat_le (1 * at) n) at 0 (le-leb (1 * at) n (omega arith)))

-- a later point counts for nothing
pub floor-without : (qs : List ℕ) (k at n : ℕ) → n < at → floor_point (insert qs k at) 1 n ≡ floor_point qs 1 n
floor-without qs k at n h =
    let skipped = ap (λ (m : ℕ). max m (floor_point qs 1 n)) (cond-false (nat_le (1 * at) n) at 0 (lt-leb (1 * at) n (omega arith))) in
    floor_same (insert qs k at) (at ∷ qs) 1 n (list_has-insert qs k at) ∙ omega (arith, skipped)

-- a new point put in its place leaves the points in ascending order
pub insert-points : (qs : List ℕ) (at : ℕ) → ArePoints qs → list_has qs at ≡ false → at ≤ LATEST → ArePoints (insert qs (place_in qs at) at)
insert-points qs at are new in_time =
    let place : ℕ = place_in qs at in
    record {
      ascending = ascending-insert qs at are.ascending new;
      zero = list_has-insert qs place at 0 ∙ list_has-rest at qs 0 are.zero;
      in_time =
          All-permutation (λ q. q ≤ LATEST) (at ∷ qs) (insert qs place at) (IsPermutation-insert qs place at)
          (All-cons (λ q. q ≤ LATEST) at qs in_time are.in_time);
    }

-- the last point before such a time is the greatest that is not after it
pub floor-before : (qs : List ℕ) (at k : ℕ) → ArePoints qs → IsPlaceIn qs at k → (k < length qs → get_or qs k 0 ≡ at → ⊥) → (0 < k) × (get_or qs (k - 1) 0 ≡ floor_point qs 1 at)
floor-before qs at k are is other =
    let none : list_has qs at ≡ false = list_has-not_at_place qs at k are.ascending is other in
    let zero_at : StandsAt qs 0 = StandsAt-from_list_has qs 0 are.zero in
    let some : 0 < k = omega (arith, StandsAt-before_place qs at k 0 is none zero_at (omega arith)) in (
      some,
      sym (floor_is qs 1 at (get_or qs (k - 1) 0) (list_has-get_or qs (k - 1) 0 (omega (arith, is.within))) (omega (arith, is.below (k - 1) 0 (omega arith)))
          (λ q there le.
          let w : StandsAt qs q = StandsAt-from_list_has qs q there in
          let less : w.place < k = StandsAt-before_place qs at k q is none w (omega (arith, le)) in
          ⊎_elim
          (λ (below : w.place < k - 1). omega (arith, are.ascending w.place (k - 1) 0 below (omega (arith, is.within)), w.is 0))
          (λ (last : k - 1 ≤ w.place). let e : w.place ≡ k - 1 = omega arith in omega (arith, ap (λ (n : ℕ). get_or qs n 0) e, w.is 0))
          (cases_lt w.place (k - 1)))),
    )

-- whether what stands at its place is the time tells whether it is a point
pub at-place-tells : (qs : List ℕ) (at k : ℕ) → ArePoints qs → IsPlaceIn qs at k → k < length qs → nat_eq (get_or qs k 0) at ≡ list_has qs at
at-place-tells qs at k are is h =
    ⊎_elim
    (λ (same : get_or qs k 0 ≡ at). eq-eqb (get_or qs k 0) at same ∙ sym (subst (λ (m : ℕ). list_has qs m ≡ true) same (list_has-get_or qs k 0 h)))
    (λ (other : get_or qs k 0 ≡ at → ⊥). ne_eqb (get_or qs k 0) at other ∙ sym (list_has-not_at_place qs at k are.ascending is (λ within. other)))
    (cases_eq (get_or qs k 0) at)
