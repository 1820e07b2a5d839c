-- Which points there are as of one round and another, and what one added point does at every round.
use Rattle.std.proofs.Common.{◌≡◌, ℕ, zero, suc, ◌-◌, ◌<◌, ◌≤◌, Bool, true, false, ◌||◌, ◌&&◌, List, [], ◌∷◌, ◌++◌, length, get_or, map, filter, ⊎_elim, refl, sym, ap, ◌∙◌, arith, max}
use Rattle.std.specs.Prelude.{nat_le, nat_eq}
use Rattle.std.specs.List.Sorted.{IsNonDecreasingBy}
use Rattle.std.proofs.Math.Bool.{or_assoc}
use Rattle.std.proofs.lemmas.Bool.{and_right, cases_Bool, eq-eqb, le-leb, lt-leb}
use Rattle.std.proofs.lemmas.List.{map-append}
use Rattle.std.proofs.lemmas.List.Elements.{All-head, All-tail, filter-append}
use Rattle.fp_timenodes.specs.declared.places.AddedPoint.{AddedPoint}
use Rattle.fp_base_lists.specs.Membership.{list_has}
use Rattle.fp_timenodes.specs.Points.{AreAfter, TimePoints, added_at, greatest_round, points_at, times_at, with_added}
use Rattle.fp_base_lists.proofs.Truth.{or_right_comm}
use Rattle.fp_base_lists.proofs.Membership.{list_has-filter_push, list_has-append, list_has-rest, list_has-first}

-- no round is later than the greatest
pub greatest_round_bound : (added : List AddedPoint) (d : AddedPoint) (k : ℕ) → k < length added → (get_or added k d).round ≤ greatest_round added
greatest_round_bound [] d k h = absurd (omega arith)
greatest_round_bound (p ∷ added) d zero h = omega arith
greatest_round_bound (p ∷ added) d (suc k) h = omega (arith, greatest_round_bound added d k (omega arith))

-- what is at least each round is at least the greatest
pub greatest_round_least : (added : List AddedPoint) (d : AddedPoint) (n : ℕ) → ((k : ℕ) → k < length added → (get_or added k d).round ≤ n) → greatest_round added ≤ n
greatest_round_least [] d n above = omega arith
greatest_round_least (p ∷ added) d n above = omega (arith, above 0 (omega arith), greatest_round_least added d n (λ k h. above (suc k) (omega arith)))

-- where rounds do not fall, the last added point has the greatest
pub greatest_round_last : (added : List AddedPoint) (p : AddedPoint) → IsNonDecreasingBy (λ (q : AddedPoint). q.round) added → 0 < length added → p ≡ get_or added (length added - 1) p → p.round ≡ greatest_round added
greatest_round_last added p rises some read =
    let bound = greatest_round_bound added p (length added - 1) (omega arith) in
    let least = greatest_round_least added p p.round (λ k h. omega (arith, rises k (length added - 1) p (omega arith) (omega arith), last)) in
    omega (arith, bound, least, last)
  where
    last : p.round ≡ (get_or added (length added - 1) p).round
    last = ap (λ (q : AddedPoint). q.round) read

-- the greatest round with one more
pub greatest_round_push : (added : List AddedPoint) (p : AddedPoint) → greatest_round (added ++ p ∷ []) ≡ max (greatest_round added) p.round
greatest_round_push [] p = omega arith
greatest_round_push (q ∷ added) p = omega (arith, greatest_round_push added p)

-- whether an added point is one of the terminal's as of a round
abbrev is_seen : ℕ → ℕ → AddedPoint → Bool
is_seen terminal round p = nat_eq p.terminal terminal && nat_le p.round round

-- the added points of two lists together
pub added_at-append : (added more : List AddedPoint) (terminal round : ℕ) → added_at (added ++ more) terminal round ≡ added_at added terminal round ++ added_at more terminal round
added_at-append added more terminal round =
    ap (map (λ (p : AddedPoint). p.at)) (filter-append (is_seen terminal round) added more) ∙
    map-append (λ (p : AddedPoint). p.at) (filter (is_seen terminal round) added) (filter (is_seen terminal round) more)

-- points of later rounds are none as of this one
pub added_at_after : (added : List AddedPoint) (terminal round : ℕ) → AreAfter round added → added_at added terminal round ≡ []
added_at_after [] terminal round after = refl
added_at_after (p ∷ added) terminal round after =
    let late : nat_le p.round round ≡ false = lt-leb p.round round (All-head (λ (q : AddedPoint). round < q.round) p added after) in
    rw (and_right (nat_eq p.terminal terminal) (nat_le p.round round) late) (added_at_after added terminal round (All-tail (λ (q : AddedPoint). round < q.round) p added after))

-- from the greatest round on the added points stay
pub added_at_from_greatest : (added : List AddedPoint) (terminal round later : ℕ) → greatest_round added ≤ round → round ≤ later → added_at added terminal later ≡ added_at added terminal round
added_at_from_greatest [] terminal round later least le = refl
added_at_from_greatest (p ∷ added) terminal round later least le =
    let rest : added_at added terminal later ≡ added_at added terminal round = added_at_from_greatest added terminal round later (omega (arith, least)) le in
    let early : nat_le p.round round ≡ true = le-leb p.round round (omega (arith, least)) in
    let also : nat_le p.round later ≡ true = le-leb p.round later (omega (arith, least, le)) in
    ⊎_elim
    (λ (own : nat_eq p.terminal terminal ≡ true). rw (own, early, also) (ap (λ (qs : List ℕ). p.at ∷ qs) rest))
    (λ (other : nat_eq p.terminal terminal ≡ false). rw other rest)
    (cases_Bool (nat_eq p.terminal terminal))

-- so from the greatest round on the points stay
pub points_at_from_greatest : (v : TimePoints) (terminal round later : ℕ) → greatest_round v.added ≤ round → round ≤ later → points_at v terminal later ≡ points_at v terminal round
points_at_from_greatest v terminal round later least le =
    ap (λ (qs : List ℕ). times_at v.first terminal ++ (qs ++ 0 ∷ [])) (added_at_from_greatest v.added terminal round later least le)

-- a point that was added by the round is there
pub list_has-added_at : (added : List AddedPoint) (terminal round k : ℕ) (d : AddedPoint) → k < length added → (get_or added k d).terminal ≡ terminal → (get_or added k d).round ≤ round →
    list_has (added_at added terminal round) (get_or added k d).at ≡ true
list_has-added_at [] terminal round k d lt own early = absurd (omega arith)
list_has-added_at (p ∷ added) terminal round zero d lt own early = rw (eq-eqb p.terminal terminal own, le-leb p.round round early) (list_has-first p.at (added_at added terminal round))
list_has-added_at (p ∷ added) terminal round (suc k) d lt own early =
    let rest : list_has (added_at added terminal round) (get_or added k d).at ≡ true = list_has-added_at added terminal round k d (omega arith) own early in
    ⊎_elim
    (λ (seen : is_seen terminal round p ≡ true). rw seen (list_has-rest p.at (added_at added terminal round) (get_or added k d).at rest))
    (λ (unseen : is_seen terminal round p ≡ false). rw unseen rest)
    (cases_Bool (is_seen terminal round p))

-- the points of a terminal as of a round, by their kinds
pub list_has-points_at : (v : TimePoints) (terminal round at : ℕ) →
    list_has (points_at v terminal round) at ≡ (list_has (times_at v.first terminal) at || (list_has (added_at v.added terminal round) at || list_has (0 ∷ []) at))
list_has-points_at v terminal round at =
    list_has-append (times_at v.first terminal) (added_at v.added terminal round ++ 0 ∷ []) at ∙
    ap (λ (b : Bool). list_has (times_at v.first terminal) at || b) (list_has-append (added_at v.added terminal round) (0 ∷ []) at)

-- one added point is one more point of its terminal, as of its round and of each later one
pub list_has-with_added : (v : TimePoints) (p : AddedPoint) (terminal round at : ℕ) →
    list_has (points_at (with_added v (p ∷ [])) terminal round) at ≡ (list_has (points_at v terminal round) at || ((nat_eq p.terminal terminal && nat_le p.round round) && nat_eq p.at at))
list_has-with_added v p terminal round at =
    let firsts : Bool = list_has (times_at v.first terminal) at in
    let others : Bool = list_has (added_at v.added terminal round) at in
    let zeros : Bool = list_has (0 ∷ []) at in
    let one : Bool = is_seen terminal round p && nat_eq p.at at in
    list_has-points_at (with_added v (p ∷ [])) terminal round at ∙
    ap (λ (b : Bool). firsts || (b || zeros)) (list_has-filter_push (is_seen terminal round) (λ (q : AddedPoint). q.at) v.added p at) ∙
    ap (λ (b : Bool). firsts || b) (or_right_comm others one zeros) ∙
    sym (or_assoc firsts (others || zeros) one) ∙
    ap (λ (b : Bool). b || one) (sym (list_has-points_at v terminal round at))
