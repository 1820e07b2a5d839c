-- A plan has few truck lines, and few trucks: their numbers and their sums fit.
use Rattle.std.proofs.Common.{◌≡◌, ℕ, zero, suc, ◌+◌, ◌-◌, ◌*◌, ◌^◌, ◌<◌, ◌≤◌, Bool, true, false, List, [], ◌∷◌, length, map, get_or, refl, sym, ap, ◌∙◌, subst, arith, ⊎_elim}
use Rattle.std.specs.Prelude.{All, AllPairs, if◌then◌else◌}
use Rattle.std.specs.Int.{div_ceil}
use Rattle.std.specs.List.{AllByRecursion, AllZip}
use Rattle.std.proofs.Math.ListN.{get_or-map, length-map}
use Rattle.std.proofs.Math.Nat.{eq-or-lt_of_le, mul-le-mul_left}
use Rattle.std.proofs.lemmas.Bool.{cases_eq}
use Rattle.std.proofs.lemmas.List.{get_or-map as get_or_map}
use Rattle.std.proofs.lemmas.List.Elements.{All-head, All-tail}
use Rattle.fp_base_lists.specs.Below.{sum_below}
use Rattle.fp_base_lists.proofs.Ceilings.{div_ceil-least}
use Rattle.fp_base_lists.proofs.Elements.{AllByRecursion-append, AllByRecursion-weaker}
use Rattle.fp_base_lists.proofs.Places.{place-le-get_or}
use Rattle.fp_model.specs.declared.limits.TheConstants.{LATEST}
use Rattle.fp_model.specs.declared.parts.Leg.{Leg}
use Rattle.fp_model.specs.declared.parts.Shipment.{Shipment}
use Rattle.fp_model.specs.Costs.{all_legs, has_leg, load}
use Rattle.fp_model.specs.Plans.{IsPlan}
use Rattle.fp_model.specs.Problem.{IsArc, IsShipment, IsValid, Problem, arc_at, no_arc}
use Rattle.fp_model.specs.Routes.{Carries}
use Rattle.fp_timetable.specs.declared.lines.TruckLine.{TruckLine}
use Rattle.fp_timetable.specs.Lines.{AreTruckLines, TruckExists, departure}
use Rattle.fp_timetable.specs.Order.{no_line}
use Rattle.fp_timetable.proofs.AllLines.{has_leg-get_or}
use Rattle.fp_timetable.proofs.OrderedLines.{has-each}
use Rattle.fp_fleet.specs.Rosters.{line_at, truck_total}
use Rattle.fp_fleet.specs.Sweeps.{IsTimetable}
use Rattle.fp_model.proofs.LastArrivals.{legs-depart_by}

-- so the legs of a plan depart by the latest time
plan-departs : (p : Problem) (n : ℕ) (shipments : List Shipment) (routes : List (List Leg)) → All (IsShipment n) shipments → AllZip (Carries p 1) shipments routes →
    AllByRecursion (λ (l : Leg). l.depart ≤ LATEST) (all_legs routes)
plan-departs p n [] [] sound plan = tt
plan-departs p n [] (r ∷ routes) sound plan = absurd plan
plan-departs p n (s ∷ shipments) [] sound plan = absurd plan
plan-departs p n (s ∷ shipments) (r ∷ routes) sound plan =
    let here : IsShipment n s = All-head (IsShipment n) s shipments sound in
    AllByRecursion-append (λ (l : Leg). l.depart ≤ LATEST) r (all_legs routes)
    (AllByRecursion-weaker (λ (l : Leg). l.depart ≤ s.due) (λ (l : Leg). l.depart ≤ LATEST) (λ l h. omega (arith, h, here.within.due)) r
    (legs-depart_by p (1 * s.release) s.due r plan.0.ready plan.0.due))
    (plan-departs p n shipments routes (All-tail (IsShipment n) s shipments sound) plan.1)

-- and so do its truck lines
lines-depart : (p : Problem) (routes : List (List Leg)) (lines : List TruckLine) → IsValid p → IsPlan p 1 routes → AreTruckLines p routes lines →
    All (λ (t : TruckLine). t.depart ≤ LATEST) lines
lines-depart p routes lines valid plan are = λ i d lt.
    let k : Leg = departure (get_or lines i d) in
    let there : has_leg k (map departure lines) ≡ true =
    subst (λ (l : Leg). has_leg l (map departure lines) ≡ true) (get_or-map departure lines i d) (has_leg-get_or (map departure lines) i (departure d) (rw length-map lt)) in
    has-each (λ (l : Leg). l.depart ≤ LATEST) k (all_legs routes) (plan-departs p (length p.terminals) p.shipments routes valid.parts.shipments plan) (sym (are.departures k) ∙ there)

numbers-ascend : (p : Problem) (routes : List (List Leg)) (lines : List TruckLine) → IsValid p → All (TruckExists p) lines → AreTruckLines p routes lines →
    AllPairs (λ a b. a < b) (map (λ (t : TruckLine). t.depart * 1000 + t.arc) lines)
numbers-ascend p routes lines valid exist are i j d less lt =
    let short : j < length lines = rw length-map at lt in
    let t : TruckLine = line_at lines i in
    let u : TruckLine = line_at lines j in
    let small : t.arc < 1000 = omega (arith, exist i no_line (omega (arith, less, short)), valid.parts.few_arcs) in
    let first : get_or (map (λ (v : TruckLine). v.depart * 1000 + v.arc) lines) i d ≡ t.depart * 1000 + t.arc =
    get_or_map (λ (v : TruckLine). v.depart * 1000 + v.arc) lines i no_line d (omega (arith, less, short)) in
    let second : get_or (map (λ (v : TruckLine). v.depart * 1000 + v.arc) lines) j d ≡ u.depart * 1000 + u.arc =
    get_or_map (λ (v : TruckLine). v.depart * 1000 + v.arc) lines j no_line d short in
    ⊎_elim
    (λ (before : t.depart < u.depart). omega (arith, before, small, first, second))
    (λ (same : (t.depart ≡ u.depart) × (t.arc < u.arc)). omega (arith, same.0, same.1, first, second))
    (are.ascending i j no_line less short)

-- the truck lines of a plan are few
lines-few : (p : Problem) (routes : List (List Leg)) (lines : List TruckLine) → IsValid p → IsPlan p 1 routes → All (TruckExists p) lines → AreTruckLines p routes lines →
    length lines ≤ 100001000
lines-few p routes lines valid plan exist are =
    ⊎_elim
    (λ (none : length lines ≡ 0). omega (arith, none))
    (λ (some : length lines ≡ 0 → ⊥).
    let k : ℕ = length lines - 1 in
    let lt : k < length lines = omega (arith, some) in
    let numbers : List ℕ = map (λ (t : TruckLine). t.depart * 1000 + t.arc) lines in
    let long : length numbers ≡ length lines = rw length-map refl in
    let place : k ≤ get_or numbers k 0 = place-le-get_or numbers k (numbers-ascend p routes lines valid exist are) (omega (arith, lt, long)) in
    let is : get_or numbers k 0 ≡ (line_at lines k).depart * 1000 + (line_at lines k).arc =
    get_or_map (λ (t : TruckLine). t.depart * 1000 + t.arc) lines k no_line 0 lt in
    omega (arith, place, is, lines-depart p routes lines valid plan are k no_line lt, exist k no_line lt, valid.parts.few_arcs))
    (cases_eq (length lines) 0)

-- a load is at most the sizes of all shipments
load-le : (n : ℕ) (shipments : List Shipment) (routes : List (List Leg)) (k : Leg) → All (IsShipment n) shipments → load shipments routes k ≤ length shipments * 1000000000000000000
load-le n [] routes k sound = omega arith
load-le n (s ∷ shipments) [] k sound = omega arith
load-le n (s ∷ shipments) (r ∷ routes) k sound =
    let here : IsShipment n s = All-head (IsShipment n) s shipments sound in
    omega (arith, kept-le (has_leg k r) s.size, here.within.size.1, load-le n shipments routes k (All-tail (IsShipment n) s shipments sound))
  where
    kept-le : (b : Bool) (m : ℕ) → (if b then m else 0) ≤ m
    kept-le true m = omega arith
    kept-le false m = omega arith

-- a truck carries something, so trucks are no more than the load
ceil-le : (a u : ℕ) → 1 ≤ u → div_ceil a u ≤ a
ceil-le a u some = div_ceil-least a u a (omega (arith, some)) (omega (arith, mul-le-mul_left a some))

line-trucks-le : (p : Problem) (routes : List (List Leg)) (lines : List TruckLine) → IsValid p → All (TruckExists p) lines → AreTruckLines p routes lines →
    (m : ℕ) → m < length lines → (line_at lines m).trucks ≤ 500000000000000000000
line-trucks-le p routes lines valid exist are m lt =
    let t : TruckLine = line_at lines m in
    let arc : IsArc (length p.terminals) (arc_at p t.arc) = valid.parts.arcs t.arc no_arc (exist m no_line lt) in
    omega (
      arith,
      are.trucks m no_line lt,
      ceil-le (load p.shipments routes (departure t)) (arc_at p t.arc).capacity arc.within.capacity.0,
      load-le (length p.terminals) p.shipments routes (departure t) valid.parts.shipments,
      valid.parts.few_shipments,
    )

-- a sum of numbers that are at most a bound
sum_below-bounded : (n : ℕ) (f : ℕ → ℕ) → ((i : ℕ) → i < n → f i ≤ 500000000000000000000) → sum_below n f ≤ n * 500000000000000000000
sum_below-bounded zero f le = omega arith
sum_below-bounded (suc n) f le = omega (arith, le n (omega arith), sum_below-bounded n f (λ i h. le i (omega arith)))

-- the trucks of a plan fit their type
pub trucks-fit : (p : Problem) (routes : List (List Leg)) (lines : List TruckLine) → IsValid p → IsPlan p 1 routes → All (TruckExists p) lines → AreTruckLines p routes lines →
    truck_total lines < 2 ^ 128
trucks-fit p routes lines valid plan exist are =
    omega (
      arith,
      sum_below-bounded (length lines) (λ m. (line_at lines m).trucks) (line-trucks-le p routes lines valid exist are),
      lines-few p routes lines valid plan exist are,
    )

-- what the code needs of a plan's truck lines
pub IsTimetable-plan : (p : Problem) (routes : List (List Leg)) (lines : List TruckLine) → IsValid p → IsPlan p 1 routes → All (TruckExists p) lines → AreTruckLines p routes lines →
    IsTimetable p lines
IsTimetable-plan p routes lines valid plan exist are = record {
  valid = valid;
  exist = exist;
  early = lines-depart p routes lines valid plan are;
  few = lines-few p routes lines valid plan exist are;
  fits = trucks-fit p routes lines valid plan exist are;
  rise = λ l m le lt.
      ⊎_elim
      (λ (same : l ≡ m). omega (arith, ap (λ (k : ℕ). (line_at lines k).depart) same))
      (λ (less : l < m).
      ⊎_elim
      (λ (before : (line_at lines l).depart < (line_at lines m).depart). omega (arith, before))
      (λ (same : ((line_at lines l).depart ≡ (line_at lines m).depart) × ((line_at lines l).arc < (line_at lines m).arc)). omega (arith, same.0))
      (are.ascending l m no_line less lt))
      (eq-or-lt_of_le le);
}
