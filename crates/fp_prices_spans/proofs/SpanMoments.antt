-- Where the moments of a span end, and that those of its departures lie in its runs.
use Rattle.std.proofs.Common.{◌≡◌, ℕ, suc, ◌/◌, ◌<◌, ◌≤◌, Bool, true, false, min, List, [], ◌∷◌, Option, Some, None, ⊎_elim, refl, ap, ◌∙◌, subst, arith}
use Rattle.std.specs.Prelude.{cond, nat_le, nat_lt, ◌&&◌}
use Rattle.std.specs.List.{list_any}
use Rattle.std.proofs.lemmas.Bool.{and_from, cases_lt, false≢true, le-leb, lt-leb, lt-ltb, or_left, or_right}
use Rattle.fp_base_lists.specs.Membership.{list_has}
use Rattle.fp_base_lists.proofs.Membership.{list_has-cons_cases, list_has-first, list_has-rest}
use Rattle.fp_model.specs.declared.parts.Leg.{Leg}
use Rattle.fp_model.specs.Problem.{Problem, arc_at}
use Rattle.fp_timenodes.specs.Floor.{earlier, floor_point, next_point}
use Rattle.fp_timenodes.proofs.Floors.{floor_greatest, floor_le, floor_whole}
use Rattle.fp_longestarcs.specs.Classes.{class_of}
use Rattle.fp_prices_spans.specs.MomentRuns.{end_of, first_from, is_before, lies_in, runs_from, runs_of}
use Rattle.fp_prices_spans.specs.Spans.{ClassSpan}
use Rattle.fp_prices_spans.specs.SpanPrices.{holds}
use Rattle.fp_prices_spans.proofs.MoneySums.{IsHeldBy, holds-true}

-- the first of some points from the next moment on is the first after the moment
pub first_from-next : (qs : List ℕ) (at : ℕ) → first_from qs (suc at) ≡ next_point qs at
first_from-next [] at = refl
first_from-next (q ∷ qs) at =
    ap (λ (o : Option ℕ). earlier (cond (nat_le (suc at) q) (Some q) None) o) (first_from-next qs at)

-- 0 is the first of all, where it is one of the points
pub first_from-zero : (qs : List ℕ) → list_has qs 0 ≡ true → first_from qs 0 ≡ Some 0
first_from-zero [] there = absurd (false≢true there)
first_from-zero (q ∷ qs) there =
    let counts : first_from (q ∷ qs) 0 ≡ earlier (Some q) (first_from qs 0) =
    ap (λ (b : Bool). earlier (cond b (Some q) None) (first_from qs 0)) (le-leb 0 q (omega arith)) in
    ⊎_elim
    (λ (here : q ≡ 0). counts ∙ least_first (first_from qs 0) here)
    (λ (later : list_has qs 0 ≡ true). counts ∙ ap (earlier (Some q)) (first_from-zero qs later) ∙ least_last)
    (list_has-cons_cases q qs 0 there)
  where
    least_first : (o : Option ℕ) → q ≡ 0 → earlier (Some q) o ≡ Some 0
    least_first None here = ap Some here
    least_first (Some r) here = ap Some (let e : min q r ≡ 0 = omega (arith, here) in e)

    least_last : earlier (Some q) (Some 0) ≡ Some 0
    least_last = ap Some (let e : min q 0 ≡ 0 = omega arith in e)

-- what is known of the first of some points from a moment on
abbrev pub IsFrom : List ℕ → ℕ → Option ℕ → Type 0
IsFrom qs at None = Unit {0}
IsFrom qs at (Some e) = (list_has qs e ≡ true) × (at ≤ e)

pub first_from-is : (qs : List ℕ) (at : ℕ) → IsFrom qs at (first_from qs at)
first_from-is [] at = tt
first_from-is (q ∷ qs) at =
    ⊎_elim
    (λ (h : q < at). rw (lt-leb at q h) (more (first_from qs at) (first_from-is qs at)))
    (λ (h : at ≤ q). rw (le-leb at q h) (first (first_from qs at) h (first_from-is qs at)))
    (cases_lt q at)
  where
    more : (o : Option ℕ) → IsFrom qs at o → IsFrom (q ∷ qs) at o
    more None is = tt
    more (Some e) is = (list_has-rest q qs e is.0, is.1)

    first : (o : Option ℕ) → at ≤ q → IsFrom qs at o → IsFrom (q ∷ qs) at (earlier (Some q) o)
    first None h is = (list_has-first q qs, h)
    first (Some e) h is =
        ⊎_elim
        (λ (less : q < e). let same : q ≡ min q e = omega (arith, less) in subst (λ (n : ℕ). IsFrom (q ∷ qs) at (Some n)) same (list_has-first q qs, h))
        (λ (more : e ≤ q). let same : e ≡ min q e = omega (arith, more) in subst (λ (n : ℕ). IsFrom (q ∷ qs) at (Some n)) same (list_has-rest q qs e is.0, is.1))
        (cases_lt q e)

-- a moment from the first on and before the end lies in one of the runs
covered : (from : ℕ) (groups : List ℕ) (end : Option ℕ) (m : ℕ) → from ≤ m → is_before m end ≡ true → list_any (λ run. lies_in run m) (runs_from from groups end) ≡ true
covered from [] end m begun before =
    or_left (nat_le from m && is_before m end) false (and_from (nat_le from m) (is_before m end) (le-leb from m begun) before)
covered from (next ∷ later) end m begun before =
    let first : Bool = nat_le from m && nat_lt m next in
    let rest : Bool = list_any (λ run. lies_in run m) (runs_from next later end) in
    ⊎_elim
    (λ (h : m < next). or_left first rest (and_from (nat_le from m) (nat_lt m next) (le-leb from m begun) (lt-ltb m next h)))
    (λ (h : next ≤ m). or_right first rest (covered next later end m h before))
    (cases_lt m next)

-- where a span holds for the class of a departure, the floor of its moment lies in a run of the span: the end of the span's moments is a
-- point of the arc's tail, as all first points of it are, so a moment that isn't before it has a class that isn't either
pub departure-covered : (p : Problem) (first points : ℕ → List ℕ) (d : ℕ) (span : ClassSpan) (l : Leg) → 0 < d →
    ((q : ℕ) → list_has (first (arc_at p span.arc).from) q ≡ true → list_has (points (arc_at p span.arc).from) q ≡ true) → holds span (class_of p points d l) ≡ true →
    list_any (λ run. lies_in run (l.depart / d)) (runs_of p first span) ≡ true
departure-covered p first points d span l positive among held =
    covered span.point span.groups (end_of p first span) moment
    (omega (arith, is.from, same, floor_le (points tail) 1 moment)) (before (end_of p first span) (first_from-is (first tail) span.until))
  where
    is : IsHeldBy span (class_of p points d l)
    is = holds-true span (class_of p points d l) held

    tail : ℕ
    tail = (arc_at p span.arc).from

    moment : ℕ
    moment = l.depart / d

    same : floor_point (points tail) 1 moment ≡ (class_of p points d l).depart
    same = floor_whole (points tail) d l.depart positive ∙ ap (λ (a : ℕ). floor_point (points (arc_at p a).from) d l.depart) is.arc

    before : (o : Option ℕ) → IsFrom (first tail) span.until o → is_before moment o ≡ true
    before None end = refl
    before (Some e) end =
        ⊎_elim
        (λ (h : moment < e). lt-ltb moment e h)
        (λ (h : e ≤ moment). absurd (omega (arith, floor_greatest (points tail) 1 moment e (among e end.0) (omega (arith, h)), same, is.before, end.1)))
        (cases_lt moment e)
