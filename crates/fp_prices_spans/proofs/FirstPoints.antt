-- The first points of all terminals are among the points as of each round, and among those of its network.
use Rattle.std.proofs.Common.{◌≡◌, ℕ, Bool, true, false, List, [], ◌∷◌, ⊎_elim, sym, ◌∙◌, arith}
use Rattle.std.specs.Prelude.{nat_eq, nat_le, ◌&&◌, ◌||◌}
use Rattle.std.proofs.lemmas.Bool.{and_from, and_parts, cases_Bool, false≢true, le-leb, leb-true, or_cases, or_left, or_right}
use Rattle.fp_base_lists.specs.Membership.{list_has}
use Rattle.fp_base_lists.proofs.Membership.{list_has-cons_cases, list_has-first, list_has-rest}
use Rattle.fp_model.specs.Problem.{Problem}
use Rattle.fp_timenodes.specs.declared.places.AddedPoint.{AddedPoint}
use Rattle.fp_timenodes.specs.Points.{TimePoints, added_at, points_at, times_at}
use Rattle.fp_timenodes.proofs.Rounds.{list_has-points_at}
use Rattle.fp_prices_spans.specs.MomentRuns.{AreAmong, first_points}

-- what was added by round 0 was added by each round
added-early : (added : List AddedPoint) (terminal round q : ℕ) → list_has (added_at added terminal 0) q ≡ true → list_has (added_at added terminal round) q ≡ true
added-early [] terminal round q had = absurd (false≢true had)
added-early (p ∷ added) terminal round q had =
    let own : Bool = nat_eq p.terminal terminal in
    ⊎_elim
    (λ (early : (own && nat_le p.round 0) ≡ true).
    let parts = and_parts own (nat_le p.round 0) early in
    let also : (own && nat_le p.round round) ≡ true = and_from own (nat_le p.round round) parts.0 (le-leb p.round round (omega (arith, leb-true p.round 0 parts.1))) in
    let told = rw early at had in
    rw also
    (⊎_elim
    (λ (here : p.at ≡ q). rw here (list_has-first q (added_at added terminal round)))
    (λ (later : list_has (added_at added terminal 0) q ≡ true). list_has-rest p.at (added_at added terminal round) q (added-early added terminal round q later))
    (list_has-cons_cases p.at (added_at added terminal 0) q told)))
    (λ (not_early : (own && nat_le p.round 0) ≡ false).
    let told = rw not_early at had in
    let rest : list_has (added_at added terminal round) q ≡ true = added-early added terminal round q told in
    ⊎_elim
    (λ (also : (own && nat_le p.round round) ≡ true). rw also (list_has-rest p.at (added_at added terminal round) q rest))
    (λ (not_also : (own && nat_le p.round round) ≡ false). rw not_also rest)
    (cases_Bool (own && nat_le p.round round)))
    (cases_Bool (own && nat_le p.round 0))

-- the first points are points as of each round
pub first-among_round : (p : Problem) (v : TimePoints) (round : ℕ) → AreAmong p (first_points v) (λ terminal. points_at v terminal round)
first-among_round p v round terminal q lt had =
    let times : Bool = list_has (times_at v.first terminal) q in
    let zeros : Bool = list_has (0 ∷ []) q in
    let first : Bool = list_has (added_at v.added terminal 0) q in
    let added : Bool = list_has (added_at v.added terminal round) q in
    list_has-points_at v terminal round q
    ∙ ⊎_elim
    (λ (of_start : times ≡ true). or_left times (added || zeros) of_start)
    (λ (other : (first || zeros) ≡ true).
    or_right times (added || zeros)
    (⊎_elim
    (λ (early : first ≡ true). or_left added zeros (added-early v.added terminal round q early))
    (λ (zero : zeros ≡ true). or_right added zeros zero)
    (or_cases first zeros other)))
    (or_cases times (first || zeros) (sym (list_has-points_at v terminal 0 q) ∙ had))
