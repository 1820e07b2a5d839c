-- The lines of all legs, before they are put in order.
use Rattle.std.proofs.Common.{◌≡◌, ℕ, zero, suc, ◌+◌, ◌<◌, Bool, true, ◌||◌, List, [], ◌∷◌, length, map, get_or, refl, sym, ap, ap₂, ◌∙◌, subst, arith}
use Rattle.std.specs.Prelude.{All, Contains}
use Rattle.std.proofs.lemmas.Bool.{or_left, or_right}
use Rattle.std.proofs.lemmas.List.{map-append}
use Rattle.std.proofs.Math.ListN.{get_or-map, length-map}
use Rattle.std.proofs.lemmas.List.Elements.{All-append, All-nil, All-map, All-from_get_or, Contains-append_left, Contains-append_right, Contains-get_or}
use Rattle.std.proofs.lemmas.List.Folds.{list_any-append}
use Rattle.fp_model.specs.declared.parts.Leg.{Leg}
use Rattle.fp_model.specs.Costs.{all_legs, has_leg, same_leg}
use Rattle.fp_model.specs.Numbered.{leg_at, no_leg, route_at}
use Rattle.fp_model.specs.Problem.{Problem}
use Rattle.fp_model.proofs.Distinct.{same_leg-refl}
use Rattle.fp_timetable.specs.declared.lines.LegLine.{LegLine}
use Rattle.fp_timetable.specs.Lines.{IsLegLine, leg_line, line_leg}
use Rattle.fp_timetable.specs.Order.{lines_from}

-- a leg of a list is there
pub has_leg-get_or : (legs : List Leg) (i : ℕ) (d : Leg) → i < length legs → has_leg (get_or legs i d) legs ≡ true
has_leg-get_or [] i d lt = absurd (omega (arith, lt))
has_leg-get_or (l ∷ legs) zero d lt = or_left (same_leg l l) (has_leg l legs) (same_leg-refl l)
has_leg-get_or (l ∷ legs) (suc i) d lt = or_right (same_leg (get_or legs i d) l) (has_leg (get_or legs i d) legs) (has_leg-get_or legs i d (omega (arith, lt)))

route-lines : (p : Problem) (routes : List (List Leg)) (k : ℕ) (legs : List Leg) → k < length routes → route_at routes k ≡ legs →
    All (IsLegLine p routes) (map (leg_line p k) legs)
route-lines p routes k legs lt same =
    All-map (IsLegLine p routes) (leg_line p k) legs
    (All-from_get_or (λ (l : Leg). IsLegLine p routes (leg_line p k l)) legs no_leg
    (λ i below. record {
      shipment = lt;
      leg = subst (λ (r : List Leg). has_leg (leg_at legs i) r ≡ true) (sym same) (has_leg-get_or legs i no_leg below);
      arrive = refl;
    }))

-- routes stand among others from a number on
abbrev pub StandFrom : List (List Leg) → ℕ → List (List Leg) → Type 0
StandFrom routes i part = (j : ℕ) → j < length part → (i + j < length routes) × (route_at routes (i + j) ≡ route_at part j)

pub StandFrom-all : (routes : List (List Leg)) → StandFrom routes 0 routes
StandFrom-all routes j lt =
    let same : 0 + j ≡ j = omega arith in
    (omega (arith, lt), ap (λ (n : ℕ). route_at routes n) same)

pub StandFrom-next : (routes : List (List Leg)) (i : ℕ) (legs : List Leg) (part : List (List Leg)) → StandFrom routes i (legs ∷ part) → StandFrom routes (i + 1) part
StandFrom-next routes i legs part stand j lt =
    let next = stand (suc j) (omega (arith, lt)) in
    let same : i + suc j ≡ i + 1 + j = omega arith in
    subst (λ (n : ℕ). (n < length routes) × (route_at routes n ≡ route_at part j)) same next

pub lines_from-legs : (p : Problem) (routes : List (List Leg)) (i : ℕ) (part : List (List Leg)) → StandFrom routes i part → All (IsLegLine p routes) (lines_from p i part)
lines_from-legs p routes i [] stand = All-nil _
lines_from-legs p routes i (legs ∷ part) stand =
    let first = stand 0 (omega arith) in
    let same : i + 0 ≡ i = omega arith in
    let here : (i < length routes) × (route_at routes i ≡ legs) = subst (λ (n : ℕ). (n < length routes) × (route_at routes n ≡ legs)) same first in
    All-append (IsLegLine p routes) (map (leg_line p i) legs) (lines_from p (i + 1) part)
    (route-lines p routes i legs here.0 here.1)
    (lines_from-legs p routes (i + 1) part (StandFrom-next routes i legs part stand))

-- each leg has its line
pub lines_from-every : (p : Problem) (i : ℕ) (part : List (List Leg)) (k j : ℕ) → k < length part → j < length (route_at part k) →
    Contains (lines_from p i part) (leg_line p (i + k) (leg_at (route_at part k) j))
lines_from-every p i [] k j lt below = absurd (omega (arith, lt))
lines_from-every p i (legs ∷ part) zero j lt below =
    let there : Contains (map (leg_line p i) legs) (leg_line p i (leg_at legs j)) =
    subst (λ (l : LegLine). Contains (map (leg_line p i) legs) l) (get_or-map (leg_line p i) legs j no_leg)
    (Contains-get_or (map (leg_line p i) legs) j (leg_line p i no_leg) (rw length-map below)) in
    let same : i ≡ i + 0 = omega arith in
    subst (λ (n : ℕ). Contains (lines_from p i (legs ∷ part)) (leg_line p n (leg_at legs j))) same
    (Contains-append_left (map (leg_line p i) legs) (lines_from p (i + 1) part) _ there)
lines_from-every p i (legs ∷ part) (suc k) j lt below =
    let there : Contains (lines_from p (i + 1) part) (leg_line p (i + 1 + k) (leg_at (route_at part k) j)) =
    lines_from-every p (i + 1) part k j (omega (arith, lt)) below in
    let same : i + 1 + k ≡ i + suc k = omega arith in
    Contains-append_right (map (leg_line p i) legs) (lines_from p (i + 1) part) _
    (subst (λ (n : ℕ). Contains (lines_from p (i + 1) part) (leg_line p n (leg_at (route_at part k) j))) same there)

has_leg-route : (p : Problem) (i : ℕ) (k : Leg) (legs : List Leg) → has_leg k (map line_leg (map (leg_line p i) legs)) ≡ has_leg k legs
has_leg-route p i k [] = refl
has_leg-route p i k (l ∷ legs) = ap (λ (b : Bool). same_leg k l || b) (has_leg-route p i k legs)

-- the departures of the lines are those of the routes
pub lines_from-departures : (p : Problem) (i : ℕ) (part : List (List Leg)) (k : Leg) → has_leg k (map line_leg (lines_from p i part)) ≡ has_leg k (all_legs part)
lines_from-departures p i [] k = refl
lines_from-departures p i (legs ∷ part) k =
    ap (λ (xs : List Leg). has_leg k xs) (map-append line_leg (map (leg_line p i) legs) (lines_from p (i + 1) part))
    ∙ list_any-append (same_leg k) (map line_leg (map (leg_line p i) legs)) (map line_leg (lines_from p (i + 1) part))
    ∙ ap₂ (λ (a b : Bool). a || b) (has_leg-route p i k legs) (lines_from-departures p (i + 1) part k)
    ∙ sym (list_any-append (same_leg k) legs (all_legs part))
