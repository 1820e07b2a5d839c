-- What the timelines say of the points of all terminals.
use Rattle.std.proofs.Common.{◌≡◌, ℕ, ◌<◌, ◌≤◌, Bool, true, false, List, [], ◌∷◌, ◌++◌, ◌&&◌, length, get_or, map, filter, All, ⊎_elim, refl, sym, ap, ◌∙◌, subst, arith}
use Rattle.std.specs.Prelude.{nat_le, nat_eq}
use Rattle.std.proofs.lemmas.Bool.{cases_Bool, or_cases, or_right}
use Rattle.std.proofs.lemmas.List.Elements.{All-tail, All-weaker}
use Rattle.std.proofs.lemmas.List.{get_or_default}
use Rattle.fp_timenodes.specs.declared.places.Place.{Place}
use Rattle.fp_timenodes.specs.declared.places.AddedPoint.{AddedPoint}
use Rattle.fp_timenodes.specs.declared.timelines.Stamp.{Stamp}
use Rattle.fp_timenodes.specs.Floor.{HaveSamePoints}
use Rattle.fp_base_lists.specs.Membership.{list_has}
use Rattle.fp_timenodes.specs.Points.{TimePoints, IsPlace, IsAddedPoint, times_at, added_at, points_at, HasValidPoints}
use Rattle.fp_timenodes.specs.Stamps.{points_of}
use Rattle.fp_timenodes.specs.Timelines.{Show}
use Rattle.fp_timenodes.specs.declared.places.TheConstants.{LATEST}
use Rattle.fp_base_lists.proofs.Membership.{list_has-append, list_has-cons_cases}

-- the points that these fields stand for
abbrev pub seen_as : List Place → List AddedPoint → List (List Stamp) → TimePoints
seen_as first added timelines = record { terminals = length timelines; first = first; added = added }

-- the timeline that an index reads has the points of its terminal
pub HaveSamePoints-timeline : (v : TimePoints) (first : List Place) (added : List AddedPoint) (timelines : List (List Stamp)) (terminal round : ℕ) (stamps : List Stamp) →
    Show (seen_as first added timelines) timelines → seen_as first added timelines ≡ v → terminal < v.terminals → stamps ≡ get_or timelines terminal stamps →
    HaveSamePoints (points_of stamps round) (points_at v terminal round)
HaveSamePoints-timeline v first added timelines terminal round stamps shows is within read =
    let some : terminal < length timelines = omega (arith, ap (λ (w : TimePoints). w.terminals) is) in
    let same : get_or timelines terminal [] ≡ stamps = get_or_default timelines terminal [] stamps some ∙ sym read in
    let points = shows.points terminal round some in
    subst (λ (w : TimePoints). HaveSamePoints (points_of stamps round) (points_at w terminal round)) is
    (subst (λ (l : List Stamp). HaveSamePoints (points_of l round) (points_at (seen_as first added timelines) terminal round)) same points)

-- what is kept of a list has only times that the whole has
kept-in-time : {X : Type 0} (kept : X → Bool) (at : X → ℕ) (latest : ℕ) (xs : List X) (q : ℕ) → All (λ x. at x ≤ latest) xs → list_has (map at (filter kept xs)) q ≡ true → q ≤ latest
kept-in-time kept at latest [] q all h = cc
kept-in-time kept at latest (x ∷ xs) q all h =
    let rest = All-tail (λ y. at y ≤ latest) x xs all in
    ⊎_elim
    (λ (e : kept x ≡ true).
    ⊎_elim
    (λ (same : at x ≡ q). omega (arith, same, all 0 x (omega arith)))
    (λ (later : list_has (map at (filter kept xs)) q ≡ true). kept-in-time kept at latest xs q rest later)
    (list_has-cons_cases (at x) (map at (filter kept xs)) q (rw e at h)))
    (λ (e : kept x ≡ false). kept-in-time kept at latest xs q rest (rw e at h))
    (cases_Bool (kept x))

-- no point is later than the latest time
pub points_at_latest : (v : TimePoints) (terminal round q : ℕ) → HasValidPoints v → list_has (points_at v terminal round) q ≡ true → q ≤ LATEST
points_at_latest v terminal round q valid h =
    let firsts : List ℕ = times_at v.first terminal in
    let others : List ℕ = added_at v.added terminal round in
    ⊎_elim
    (λ (e : list_has firsts q ≡ true).
    kept-in-time (λ (p : Place). nat_eq p.terminal terminal) (λ (p : Place). p.at) LATEST v.first q
    (All-weaker (IsPlace v.terminals) (λ (p : Place). p.at ≤ LATEST) (λ p f. f.1) v.first valid.first) e)
    (λ (e : list_has (others ++ 0 ∷ []) q ≡ true).
    ⊎_elim
    (λ (f : list_has others q ≡ true).
    kept-in-time (λ (p : AddedPoint). nat_eq p.terminal terminal && nat_le p.round round) (λ (p : AddedPoint). p.at) LATEST v.added q
    (All-weaker (IsAddedPoint v.terminals) (λ (p : AddedPoint). p.at ≤ LATEST) (λ p g. g.1) v.added valid.added) f)
    (λ (f : list_has (0 ∷ []) q ≡ true). ⊎_elim (λ (g : 0 ≡ q). omega arith) (λ (g : list_has [] q ≡ true). cc) (list_has-cons_cases 0 [] q f))
    (or_cases (list_has others q) (list_has (0 ∷ []) q) (sym (list_has-append others (0 ∷ []) q) ∙ e)))
    (or_cases (list_has firsts q) (list_has (others ++ 0 ∷ []) q) (sym (list_has-append firsts (others ++ 0 ∷ []) q) ∙ h))

-- 0 is always a point
pub list_has-zero : (v : TimePoints) (terminal round : ℕ) → list_has (points_at v terminal round) 0 ≡ true
list_has-zero v terminal round =
    list_has-append (times_at v.first terminal) (added_at v.added terminal round ++ 0 ∷ []) 0 ∙
    or_right (list_has (times_at v.first terminal) 0) (list_has (added_at v.added terminal round ++ 0 ∷ []) 0)
    (list_has-append (added_at v.added terminal round) (0 ∷ []) 0 ∙ or_right (list_has (added_at v.added terminal round) 0) (list_has (0 ∷ []) 0) refl)
