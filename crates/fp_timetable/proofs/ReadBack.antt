-- The leg lines of a plan, read back, are the plan.
use Rattle.std.proofs.Common.{◌≡◌, ◌≢◌, ℕ, zero, suc, ◌+◌, ◌<◌, ◌≤◌, Bool, true, false, ◌||◌, List, [], ◌∷◌, length, get_or, ⊎_elim, refl, sym, ap, ap₂, ◌∙◌, subst, arith, eqb-true, eq-eqb}
use Rattle.std.specs.Prelude.{AllPairs, if◌then◌else◌, nat_eq}
use Rattle.std.specs.List.{AllByRecursion}
use Rattle.std.proofs.lemmas.Bool.{cases_Bool, cond-true, cond-false, or_cases, or_left, or_right, both_ways, false≢true, true≢false}
use Rattle.std.proofs.lemmas.List.Elements.{All-get_or}
use Rattle.fp_base_lists.proofs.Truth.{Bool-from_both}
use Rattle.fp_model.specs.declared.parts.Leg.{Leg}
use Rattle.fp_model.specs.declared.parts.Shipment.{Shipment}
use Rattle.fp_model.specs.Costs.{has_leg, same_leg}
use Rattle.fp_model.specs.Numbered.{leg_at, no_leg, route_at}
use Rattle.fp_model.specs.Problem.{Problem}
use Rattle.fp_model.proofs.Distinct.{same_leg-refl, same_leg-true}
use Rattle.fp_base_lists.proofs.Elements.{AllByRecursion-weaker, AllByRecursion-from_get_or, AllByRecursion-get_or}
use Rattle.fp_timetable.specs.declared.lines.LegLine.{LegLine}
use Rattle.fp_timetable.specs.Lines.{AreLegLines, IsLegLine, leg_line, line_leg, route_of, routes_from}
use Rattle.fp_base_lists.specs.Order.{Precedes}
use Rattle.fp_timetable.proofs.DepartureLoads.{AllRise, not-later}
use Rattle.fp_timetable.proofs.AllLines.{StandFrom, StandFrom-all, StandFrom-next, has_leg-get_or}
use Rattle.fp_timetable.proofs.MergedLegs.{no_leg_line}
use Rattle.fp_timetable.proofs.Pairs.{EachPair, EachPair-AllPairs}
use Rattle.fp_timetable.proofs.LegTimes.{Rise}

-- a leg of a list stands at a place
place-of : (k : Leg) (legs : List Leg) → has_leg k legs ≡ true → (i : ℕ) × (i < length legs) × (leg_at legs i ≡ k)
place-of k [] has = absurd (false≢true has)
place-of k (l ∷ legs) has =
    ⊎_elim
    (λ (here : same_leg k l ≡ true). (0, omega arith, sym (same_leg-true k l here)))
    (λ (later : has_leg k legs ≡ true). let at = place-of k legs later in (suc at.0, omega (arith, at.1), at.2))
    (or_cases (same_leg k l) (has_leg k legs) has)

-- legs that rise and are the same legs are in the same order
same-legs : (xs ys : List Leg) → Rise xs → Rise ys → ((k : Leg) → has_leg k xs ≡ has_leg k ys) → xs ≡ ys
same-legs [] [] rise other same = refl
same-legs [] (y ∷ ys) rise other same = absurd (false≢true (same y ∙ or_left (same_leg y y) (has_leg y ys) (same_leg-refl y)))
same-legs (x ∷ xs) [] rise other same = absurd (false≢true (sym (same x) ∙ or_left (same_leg x x) (has_leg x xs) (same_leg-refl x)))
same-legs (x ∷ xs) (y ∷ ys) rise other same =
    let first : x ≡ y =
    ⊎_elim
    (λ (h : same_leg x y ≡ true). same_leg-true x y h)
    (λ (in_ys : has_leg x ys ≡ true).
    ⊎_elim
    (λ (h : same_leg y x ≡ true). sym (same_leg-true y x h))
    (λ (in_xs : has_leg y xs ≡ true). absurd (omega (arith, later x y ys other.0 in_ys, later y x xs rise.0 in_xs)))
    (or_cases (same_leg y x) (has_leg y xs) (same y ∙ or_left (same_leg y y) (has_leg y ys) (same_leg-refl y))))
    (or_cases (same_leg x y) (has_leg x ys) (sym (same x) ∙ or_left (same_leg x x) (has_leg x xs) (same_leg-refl x))) in
    let rest : (k : Leg) → has_leg k xs ≡ has_leg k ys =
    λ k.
    ⊎_elim
    (λ (h : same_leg k x ≡ true).
    let is : k ≡ x = same_leg-true k x h in
    let not_xs : has_leg k xs ≡ false = subst (λ (l : Leg). has_leg l xs ≡ false) (sym is) (not-later x xs rise.0) in
    let not_ys : has_leg k ys ≡ false = subst (λ (l : Leg). has_leg l ys ≡ false) (sym (is ∙ first)) (not-later y ys other.0) in
    not_xs ∙ sym not_ys)
    (λ (h : same_leg k x ≡ false).
    let also : same_leg k y ≡ false = subst (λ (l : Leg). same_leg k l ≡ false) first h in
    sym (ap (λ (b : Bool). b || has_leg k xs) h) ∙ same k ∙ ap (λ (b : Bool). b || has_leg k ys) also)
    (cases_Bool (same_leg k x)) in
    ap₂ (λ (l : Leg) (legs : List Leg). l ∷ legs) first (same-legs xs ys rise.1 other.1 rest)
  where
    later : (k l : Leg) (legs : List Leg) → AllByRecursion (λ (m : Leg). l.depart < m.depart) legs → has_leg k legs ≡ true → l.depart < k.depart
    later k l legs all has =
        let at = place-of k legs has in
        subst (λ (m : Leg). l.depart < m.depart) at.2 (AllByRecursion-get_or (λ (m : Leg). l.depart < m.depart) legs at.0 no_leg all at.1)

-- a line of another shipment gives no leg, and one of the shipment gives its leg
pub route_of-other : (l : LegLine) (lines : List LegLine) (k : ℕ) → nat_eq l.shipment k ≡ false → route_of (l ∷ lines) k ≡ route_of lines k
route_of-other l lines k h = cond-false (nat_eq l.shipment k) (line_leg l ∷ route_of lines k) (route_of lines k) h

pub route_of-own : (l : LegLine) (lines : List LegLine) (k : ℕ) → nat_eq l.shipment k ≡ true → route_of (l ∷ lines) k ≡ line_leg l ∷ route_of lines k
route_of-own l lines k h = cond-true (nat_eq l.shipment k) (line_leg l ∷ route_of lines k) (route_of lines k) h

-- what holds of the legs of a shipment's lines
route_of-each : (P : Leg → Type 0) (lines : List LegLine) (k : ℕ) → AllByRecursion (λ (l : LegLine). l.shipment ≡ k → P (line_leg l)) lines → AllByRecursion P (route_of lines k)
route_of-each P [] k all = tt
route_of-each P (l ∷ lines) k all =
    ⊎_elim
    (λ (h : nat_eq l.shipment k ≡ true).
    subst (λ (legs : List Leg). AllByRecursion P legs) (sym (route_of-own l lines k h)) (all.0 (eqb-true l.shipment k h), route_of-each P lines k all.1))
    (λ (h : nat_eq l.shipment k ≡ false). subst (λ (legs : List Leg). AllByRecursion P legs) (sym (route_of-other l lines k h)) (route_of-each P lines k all.1))
    (cases_Bool (nat_eq l.shipment k))

-- one line stands before another
abbrev LinePrecedes : LegLine → LegLine → Type 0
LinePrecedes k l = Precedes k.depart k.shipment l.depart l.shipment

route_of-rise : (lines : List LegLine) (k : ℕ) → EachPair LinePrecedes lines → Rise (route_of lines k)
route_of-rise [] k pairs = tt
route_of-rise (l ∷ lines) k pairs =
    ⊎_elim
    (λ (h : nat_eq l.shipment k ≡ true).
    let own : l.shipment ≡ k = eqb-true l.shipment k h in
    let after : AllByRecursion (λ (m : LegLine). m.shipment ≡ k → l.depart < m.depart) lines =
    AllByRecursion-weaker (LinePrecedes l) (λ (m : LegLine). m.shipment ≡ k → l.depart < m.depart)
    (λ m precedes other. ⊎_elim (λ before. before) (λ same. absurd (omega (arith, same.1, own, other))) precedes) lines pairs.0 in
    subst Rise (sym (route_of-own l lines k h)) (route_of-each (λ (m : Leg). l.depart < m.depart) lines k after, route_of-rise lines k pairs.1))
    (λ (h : nat_eq l.shipment k ≡ false). subst Rise (sym (route_of-other l lines k h)) (route_of-rise lines k pairs.1))
    (cases_Bool (nat_eq l.shipment k))

-- a line of a shipment gives one of its legs
route_of-has : (lines : List LegLine) (k i : ℕ) (d : LegLine) → i < length lines → (get_or lines i d).shipment ≡ k → has_leg (line_leg (get_or lines i d)) (route_of lines k) ≡ true
route_of-has [] k i d lt own = absurd (omega (arith, lt))
route_of-has (l ∷ lines) k zero d lt own =
    subst (λ (legs : List Leg). has_leg (line_leg l) legs ≡ true) (sym (route_of-own l lines k (eq-eqb l.shipment k own)))
    (or_left (same_leg (line_leg l) (line_leg l)) (has_leg (line_leg l) (route_of lines k)) (same_leg-refl (line_leg l)))
route_of-has (l ∷ lines) k (suc i) d lt own =
    let leg : Leg = line_leg (get_or lines i d) in
    let later : has_leg leg (route_of lines k) ≡ true = route_of-has lines k i d (omega (arith, lt)) own in
    ⊎_elim
    (λ (h : nat_eq l.shipment k ≡ true).
    subst (λ (legs : List Leg). has_leg leg legs ≡ true) (sym (route_of-own l lines k h)) (or_right (same_leg leg (line_leg l)) (has_leg leg (route_of lines k)) later))
    (λ (h : nat_eq l.shipment k ≡ false). subst (λ (legs : List Leg). has_leg leg legs ≡ true) (sym (route_of-other l lines k h)) later)
    (cases_Bool (nat_eq l.shipment k))

-- the legs of a shipment's lines are its route
route_of-lines : (p : Problem) (routes : List (List Leg)) (lines : List LegLine) (k : ℕ) → AreLegLines p routes lines → k < length routes → Rise (route_at routes k) →
    route_of lines k ≡ route_at routes k
route_of-lines p routes lines k are lt rise =
    let route : List Leg = route_at routes k in
    let own : AllByRecursion (λ (l : LegLine). l.shipment ≡ k → has_leg (line_leg l) route ≡ true) lines =
    AllByRecursion-from_get_or (λ (l : LegLine). l.shipment ≡ k → has_leg (line_leg l) route ≡ true) lines no_leg_line
    (λ i below same.
    subst (λ (n : ℕ). has_leg (line_leg (get_or lines i no_leg_line)) (route_at routes n) ≡ true) same (All-get_or (IsLegLine p routes) lines i no_leg_line below are.legs).leg) in
    let to : (leg : Leg) → has_leg leg (route_of lines k) ≡ true → has_leg leg route ≡ true =
    λ leg has.
    let at = place-of leg (route_of lines k) has in
    subst (λ (m : Leg). has_leg m route ≡ true) at.2 (AllByRecursion-get_or (λ (m : Leg). has_leg m route ≡ true) (route_of lines k) at.0 no_leg (route_of-each (λ (m : Leg). has_leg m route ≡ true) lines k own) at.1) in
    let from : (leg : Leg) → has_leg leg route ≡ true → has_leg leg (route_of lines k) ≡ true =
    λ leg has.
    let at = place-of leg route has in
    let line : LegLine = leg_line p k (leg_at route at.0) in
    let there = are.every k at.0 lt at.1 in
    let is : get_or lines there.0 line ≡ line = there.2 in
    let found : has_leg (line_leg (get_or lines there.0 line)) (route_of lines k) ≡ true = route_of-has lines k there.0 line there.1 (ap (λ (l : LegLine). l.shipment) is) in
    subst (λ (m : Leg). has_leg m (route_of lines k) ≡ true) at.2 (subst (λ (l : LegLine). has_leg (line_leg l) (route_of lines k) ≡ true) is found) in
    same-legs (route_of lines k) route (route_of-rise lines k (EachPair-AllPairs LinePrecedes lines no_leg_line are.ascending)) rise
    (λ leg. Bool-from_both (has_leg leg (route_of lines k)) (has_leg leg route) (to leg) (from leg))

routes-part : (p : Problem) (routes : List (List Leg)) (lines : List LegLine) (i : ℕ) (shipments : List Shipment) (part : List (List Leg)) → AreLegLines p routes lines →
    length part ≡ length shipments → StandFrom routes i part → AllRise part → routes_from lines i shipments ≡ part
routes-part p routes lines i [] [] are long stand rise = refl
routes-part p routes lines i [] (r ∷ part) are long stand rise = absurd (omega (arith, long))
routes-part p routes lines i (s ∷ shipments) [] are long stand rise = absurd (omega (arith, long))
routes-part p routes lines i (s ∷ shipments) (r ∷ part) are long stand rise =
    let here : i + 0 ≡ i = omega arith in
    let first : (i < length routes) × (route_at routes i ≡ r) = subst (λ (n : ℕ). (n < length routes) × (route_at routes n ≡ r)) here (stand 0 (omega arith)) in
    let own : route_of lines i ≡ r = route_of-lines p routes lines i are first.0 (subst Rise (sym first.1) rise.0) ∙ first.1 in
    ap₂ (λ (legs : List Leg) (rest : List (List Leg)). legs ∷ rest) own
    (routes-part p routes lines (i + 1) shipments part are (omega (arith, long)) (StandFrom-next routes i r part stand) rise.1)

-- the legs of the lines, shipment by shipment, are the routes
pub routes_from-lines : (p : Problem) (routes : List (List Leg)) (lines : List LegLine) → AreLegLines p routes lines → length routes ≡ length p.shipments → AllRise routes →
    routes_from lines 0 p.shipments ≡ routes
routes_from-lines p routes lines are long rise = routes-part p routes lines 0 p.shipments routes are long (StandFrom-all routes) rise
