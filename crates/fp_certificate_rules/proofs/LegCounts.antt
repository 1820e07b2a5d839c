-- How many legs and departures the lines of a plan are.
use Rattle.std.proofs.Common.{◌≡◌, ◌≢◌, ℕ, ◌+◌, ◌-◌, ◌*◌, ◌<◌, ◌≤◌, Bool, true, false, ◌||◌, List, [], ◌∷◌, map, length, ⊎_elim, refl, ap, ap₂, ◌∙◌, subst, arith, eqb-true}
use Rattle.std.specs.Prelude.{nat_eq, sum_by}
use Rattle.std.specs.List.{AllByRecursion, AllZip}
use Rattle.std.proofs.lemmas.Bool.{cases_Bool, eqb-false, ne_eqb}
use Rattle.std.proofs.lemmas.List.{length-append, length-map}
use Rattle.std.proofs.lemmas.List.Sums.{sum_by-cons}
use Rattle.fp_base_lists.specs.Order.{Precedes}
use Rattle.fp_base_lists.proofs.DistinctSums.{length-distinct-le}
use Rattle.fp_model.specs.declared.limits.TheConstants.{MOST_SHIPMENTS, MOST_TERMINALS}
use Rattle.fp_model.specs.declared.parts.Leg.{Leg}
use Rattle.fp_model.specs.declared.parts.Shipment.{Shipment}
use Rattle.fp_model.specs.Costs.{all_legs, has_leg, same_leg}
use Rattle.fp_model.specs.Problem.{IsValid, Problem, arc_at}
use Rattle.fp_model.specs.Routes.{Carries, IsRoute, Leads, arcs_of, ends_of}
use Rattle.fp_model.proofs.Distinct.{distinct_sum, distinct_sum-le-sum_by, distinct_sum-occur, distinct_sum_new, same_leg-true}
use Rattle.fp_model.proofs.Validity.{IsArc-valid}
use Rattle.fp_timetable.specs.declared.lines.LegLine.{LegLine}
use Rattle.fp_timetable.specs.declared.lines.TruckLine.{TruckLine}
use Rattle.fp_timetable.specs.Lines.{AreTruckLines, departure, route_of, routes_from}
use Rattle.fp_timetable.proofs.Pairs.{EachPair, EachPair-AllPairs}
use Rattle.fp_timetable.proofs.ReadBack.{route_of-other, route_of-own}

-- a line of an earlier shipment has no leg in the routes of later ones
routes_from-later : (l : LegLine) (lines : List LegLine) (i : ℕ) (shipments : List Shipment) → l.shipment < i → routes_from (l ∷ lines) i shipments ≡ routes_from lines i shipments
routes_from-later l lines i [] lt = refl
routes_from-later l lines i (s ∷ shipments) lt =
    ap₂ (λ (legs : List Leg) (routes : List (List Leg)). legs ∷ routes) (route_of-other l lines i (ne_eqb l.shipment i (λ same. omega (arith, lt, same))))
    (routes_from-later l lines (i + 1) shipments (omega (arith, lt)))

-- a line more of one of the shipments is a leg more
all_legs-more : (l : LegLine) (lines : List LegLine) (i : ℕ) (shipments : List Shipment) → i ≤ l.shipment → l.shipment < i + length shipments →
    length (all_legs (routes_from (l ∷ lines) i shipments)) ≡ 1 + length (all_legs (routes_from lines i shipments))
all_legs-more l lines i [] le lt = absurd (omega (arith, le, lt))
all_legs-more l lines i (s ∷ shipments) le lt =
    let more = routes_from (l ∷ lines) (i + 1) shipments in
    let rest = routes_from lines (i + 1) shipments in
    ⊎_elim
    (λ (own : nat_eq l.shipment i ≡ true).
    let same : l.shipment ≡ i = eqb-true l.shipment i own in
    omega (
      arith,
      length-append (route_of (l ∷ lines) i) (all_legs more),
      length-append (route_of lines i) (all_legs rest),
      ap length (route_of-own l lines i own),
      ap (λ (routes : List (List Leg)). length (all_legs routes)) (routes_from-later l lines (i + 1) shipments (omega (arith, same))),
    ))
    (λ (other : nat_eq l.shipment i ≡ false).
    let ne : l.shipment ≢ i = eqb-false l.shipment i other in
    omega (
      arith,
      length-append (route_of (l ∷ lines) i) (all_legs more),
      length-append (route_of lines i) (all_legs rest),
      ap length (route_of-other l lines i other),
      all_legs-more l lines (i + 1) shipments (omega (arith, le, ne)) (omega (arith, lt)),
    ))
    (cases_Bool (nat_eq l.shipment i))

-- no lines are no legs
all_legs-none : (i : ℕ) (shipments : List Shipment) → length (all_legs (routes_from [] i shipments)) ≡ 0
all_legs-none i [] = refl
all_legs-none i (s ∷ shipments) = all_legs-none (i + 1) shipments

-- lines of shipments that exist are as many legs
pub length-all_legs : (lines : List LegLine) (shipments : List Shipment) → AllByRecursion (λ (l : LegLine). l.shipment < length shipments) lines → length (all_legs (routes_from lines 0 shipments)) ≡ length lines
length-all_legs [] shipments all = all_legs-none 0 shipments
length-all_legs (l ∷ lines) shipments all = omega (arith, all_legs-more l lines 0 shipments (omega arith) (omega (arith, all.0)), length-all_legs lines shipments all.1)

-- the legs of a shipment are fewer than the terminals: its route has none of them twice
module _ (p : Problem) (valid : IsValid p) where
  ends-exist : (arcs : List ℕ) (here there : ℕ) → Leads p here arcs there → AllByRecursion (λ n. n < length p.terminals) (ends_of p arcs)
  ends-exist [] here there leads = tt
  ends-exist (a ∷ arcs) here there leads = ((IsArc-valid p a valid leads.0).to, ends-exist arcs (arc_at p a).to there leads.2)

  origin-exists : (arcs : List ℕ) (here there : ℕ) → arcs ≢ [] → Leads p here arcs there → here < length p.terminals
  origin-exists [] here there some leads = absurd (some refl)
  origin-exists (a ∷ arcs) here there some leads = subst (λ (n : ℕ). n < length p.terminals) leads.1 (IsArc-valid p a valid leads.0).from

  route-few : (s : Shipment) (legs : List Leg) → IsRoute p s (arcs_of legs) → 1 + length legs ≤ length p.terminals
  route-few s legs route =
      let distinct : length {A = ℕ} (s.from ∷ ends_of p (arcs_of legs)) ≤ length p.terminals =
      length-distinct-le (length p.terminals) (s.from ∷ ends_of p (arcs_of legs))
      (origin-exists (arcs_of legs) s.from s.to route.some route.leads, ends-exist (arcs_of legs) s.from s.to route.leads) route.once in
      omega (arith, distinct, length-map (arcs_of legs) (λ a. (arc_at p a).to), length-map legs (λ (l : Leg). l.arc))

  -- so those of a plan are at most so many
  routes-few : (d : ℕ) (shipments : List Shipment) (routes : List (List Leg)) → AllZip (Carries p d) shipments routes → length (all_legs routes) ≤ length shipments * 99
  routes-few d [] [] each = omega arith
  routes-few d [] (legs ∷ routes) each = absurd each
  routes-few d (s ∷ shipments) [] each = absurd each
  routes-few d (s ∷ shipments) (legs ∷ routes) each =
      omega (arith, length-append legs (all_legs routes), route-few s legs each.0.route, valid.parts.few_terminals, routes-few d shipments routes each.1)

  pub plan-few : (d : ℕ) (routes : List (List Leg)) → AllZip (Carries p d) p.shipments routes → length (all_legs routes) ≤ MOST_SHIPMENTS * (MOST_TERMINALS - 1)
  plan-few d routes each = omega (arith, routes-few d p.shipments routes each, valid.parts.few_shipments)

-- each leg counts for 1
sum-ones : (legs : List Leg) → sum_by (λ (k : Leg). 1) legs ≡ length legs
sum-ones [] = refl
sum-ones (k ∷ legs) = omega (arith, sum_by-cons (λ (l : Leg). 1) k legs, sum-ones legs)

-- one departure stands before another
abbrev TruckPrecedes : TruckLine → TruckLine → Type 0
TruckPrecedes t u = Precedes t.depart t.arc u.depart u.arc

-- a departure that stands before others is none of them
departure-new : (t : TruckLine) (lines : List TruckLine) → AllByRecursion (TruckPrecedes t) lines → has_leg (departure t) (map departure lines) ≡ false
departure-new t [] all = refl
departure-new t (u ∷ lines) all =
    ⊎_elim
    (λ (same : same_leg (departure t) (departure u) ≡ true).
    let is : departure t ≡ departure u = same_leg-true (departure t) (departure u) same in
    let arc : t.arc ≡ u.arc = ap (λ (k : Leg). k.arc) is in
    let depart : t.depart ≡ u.depart = ap (λ (k : Leg). k.depart) is in
    absurd (⊎_elim (λ before. omega (arith, before, depart)) (λ after. omega (arith, after.1, arc)) all.0))
    (λ (other : same_leg (departure t) (departure u) ≡ false).
    ap (λ (b : Bool). b || has_leg (departure t) (map departure lines)) other ∙ departure-new t lines all.1)
    (cases_Bool (same_leg (departure t) (departure u)))

-- departures that ascend are as many as their lines
departures-distinct : (lines : List TruckLine) → EachPair TruckPrecedes lines → distinct_sum (λ (k : Leg). 1) (map departure lines) ≡ length lines
departures-distinct [] pairs = refl
departures-distinct (t ∷ lines) pairs =
    omega (arith, distinct_sum_new (λ (k : Leg). 1) (departure t) (map departure lines) (departure-new t lines pairs.0), departures-distinct lines pairs.1)

-- and no more than the legs of which they are the departures
pub departures-few : (p : Problem) (routes : List (List Leg)) (lines : List TruckLine) → AreTruckLines p routes lines → length lines ≤ length (all_legs routes)
departures-few p routes lines are =
    omega (
      arith,
      departures-distinct lines (EachPair-AllPairs TruckPrecedes lines (record { arc = 0; depart = 0; trucks = 0; load = 0 }) are.ascending),
      distinct_sum-occur (λ (k : Leg). 1) (map departure lines) (all_legs routes) are.departures,
      distinct_sum-le-sum_by (λ (k : Leg). 1) (all_legs routes),
      sum-ones (all_legs routes),
    )
