-- Lines that were put in order are the lines of a timetable.
use Rattle.std.proofs.Common.{◌≡◌, ◌≢◌, ℕ, zero, suc, ◌+◌, ◌^◌, ◌<◌, ◌≤◌, true, false, List, [], ◌∷◌, ◌++◌, length, map, take, drop, get_or, take_all, inl, inr, ⊎_elim, refl, sym, ap, ◌∙◌, subst, arith, append-nil}
use Rattle.std.specs.Prelude.{All, AllPairs, Contains, if◌then◌else◌, slice_index_or}
use Rattle.std.specs.Int.{div_ceil}
use Rattle.std.specs.List.{AllByRecursion}
use Rattle.std.specs.List.Sorted.{IsNonDecreasingBy, IsPermutation}
use Rattle.std.proofs.Math.ListN.{get_or-map, length-map, drop_of_length-le}
use Rattle.std.proofs.Math.Nat.{eq-or-lt_of_le}
use Rattle.std.proofs.lemmas.Bool.{cases_Bool, cond-true, cond-false, or_cases, false≢true}
use Rattle.std.proofs.lemmas.List.{get_or-map as get_or_map}
use Rattle.std.proofs.lemmas.List.Elements.{All-from_get_or, All-get_or, All-map}
use Rattle.std.proofs.lemmas.List.Sorted.{All-permutation, Contains-permutation, IsPermutation-map, list_any-IsPermutation, sum_by-IsPermutation}
use Rattle.std.proofs.lemmas.List.Sums.{sum_by-cons}
use Rattle.fp_model.specs.declared.limits.TheConstants.{MOST_ARCS, MOST_SHIPMENTS}
use Rattle.fp_model.specs.declared.parts.Leg.{Leg}
use Rattle.fp_model.specs.declared.parts.Shipment.{Shipment}
use Rattle.fp_model.specs.Costs.{all_legs, has_leg, load, same_leg, trucks}
use Rattle.fp_model.specs.Numbered.{leg_at, no_shipment, route_at, shipment_at}
use Rattle.fp_model.specs.Plans.{IsPlan}
use Rattle.fp_model.specs.Problem.{Problem, IsValid, arc_at}
use Rattle.fp_model.proofs.Distinct.{same_leg-refl, same_leg-true}
use Rattle.fp_timetable.specs.declared.lines.LegLine.{LegLine}
use Rattle.fp_timetable.specs.declared.lines.TruckLine.{TruckLine}
use Rattle.fp_timetable.specs.Lines.{AreLegLines, AreTruckLines, IsLegLine, departure, leg_line, line_leg}
use Rattle.fp_base_lists.specs.Order.{Precedes}
use Rattle.fp_timetable.specs.Order.{AreMerged, LineExists, lines_from, load_on, no_line, rank_of, size_on, truck_rank, with_trucks}
use Rattle.fp_timetable.proofs.LineRanks.{leg_rank, rising-lines}
use Rattle.fp_timetable.proofs.DepartureLoads.{AllRise, ShipmentsFrom, size_on-lines}
use Rattle.fp_timetable.proofs.AllLines.{StandFrom-all, has_leg-get_or, lines_from-departures, lines_from-every, lines_from-legs}
use Rattle.fp_timetable.proofs.PlanLegs.{GoesByArc, IsReady, IsReady-plan}
use Rattle.fp_timetable.proofs.Pairs.{EachPair, EachPair-AllPairs}
use Rattle.fp_base_lists.proofs.Elements.{AllByRecursion-get_or}

precedes : (a b c d : ℕ) → b < 2 ^ 32 → d < 2 ^ 32 → rank_of a b < rank_of c d → Precedes a b c d
precedes a b c d small other less =
    ⊎_elim (λ (same : a ≡ c). inr (same, omega (arith, less, same))) (λ (before : a < c). inl before) (eq-or-lt_of_le (omega (arith, small, other, less)))

-- what holds of each of some legs holds of one that is among them
pub has-each : (P : Leg → Type 0) (k : Leg) (legs : List Leg) → AllByRecursion P legs → has_leg k legs ≡ true → P k
has-each P k [] all has = absurd (false≢true has)
has-each P k (l ∷ legs) all has =
    ⊎_elim
    (λ (here : same_leg k l ≡ true). subst P (sym (same_leg-true k l here)) all.0)
    (λ (later : has_leg k legs ≡ true). has-each P k legs all.1 later)
    (or_cases (same_leg k l) (has_leg k legs) has)

-- what stands at legs of routes goes by their arcs
pub arcs-of : {X : Type 0} (leg : X → Leg) (p : Problem) (routes : List (List Leg)) (xs : List X) → AllByRecursion (GoesByArc p) (all_legs routes) →
    ((k : Leg) → has_leg k (map leg xs) ≡ has_leg k (all_legs routes)) → All (λ x. (leg x).arc < length p.arcs) xs
arcs-of leg p routes xs exist occur = λ i d lt.
    let k : Leg = leg (get_or xs i d) in
    let there : has_leg k (map leg xs) ≡ true =
    subst (λ (l : Leg). has_leg l (map leg xs) ≡ true) (get_or-map leg xs i d) (has_leg-get_or (map leg xs) i (leg d) (rw length-map lt)) in
    has-each (GoesByArc p) k (all_legs routes) exist (sym (occur k) ∙ there)

-- the lines of all legs occur where they were put in order
occur-moved : (p : Problem) (routes : List (List Leg)) (legs : List LegLine) → IsPermutation (lines_from p 0 routes) legs → (k : Leg) →
    has_leg k (map line_leg legs) ≡ has_leg k (all_legs routes)
occur-moved p routes legs moved k =
    let all : List LegLine = lines_from p 0 routes in
    sym (list_any-IsPermutation (same_leg k) (map line_leg all) (map line_leg legs) (IsPermutation-map line_leg all legs moved)) ∙ lines_from-departures p 0 routes k

-- and are lines of shipments
legs-moved : (p : Problem) (routes : List (List Leg)) (legs : List LegLine) → IsPermutation (lines_from p 0 routes) legs → All (IsLegLine p routes) legs
legs-moved p routes legs moved = All-permutation (IsLegLine p routes) (lines_from p 0 routes) legs moved (lines_from-legs p routes 0 routes (StandFrom-all routes))

pub AreLegLines-sorted : (p : Problem) (routes : List (List Leg)) (lines : List LegLine) → length routes ≤ MOST_SHIPMENTS → AllRise routes → IsPermutation (lines_from p 0 routes) lines →
    IsNonDecreasingBy leg_rank lines → AreLegLines p routes lines
AreLegLines-sorted p routes lines few rise moved sorted =
    let legs : All (IsLegLine p routes) lines = legs-moved p routes lines moved in
    let small : (i : ℕ) (d : LegLine) → i < length lines → (get_or lines i d).shipment < 2 ^ 32 =
    λ i d lt. let at : IsLegLine p routes (get_or lines i d) = All-get_or (IsLegLine p routes) lines i d lt legs in omega (arith, at.shipment, few) in
    record {
      ascending = λ i j d less lt.
          precedes (get_or lines i d).depart (get_or lines i d).shipment (get_or lines j d).depart (get_or lines j d).shipment
          (small i d (omega (arith, less, lt))) (small j d lt)
          (rising-lines p routes lines (omega (arith, few)) rise moved sorted i j d less lt);
      legs = legs;
      every = λ k i lt below.
          let same : 0 + k ≡ k = omega arith in
          Contains-permutation (lines_from p 0 routes) lines (leg_line p k (leg_at (route_at routes k) i)) moved
          (subst (λ (n : ℕ). Contains (lines_from p 0 routes) (leg_line p n (leg_at (route_at routes k) i))) same (lines_from-every p 0 routes k i lt below));
    }

-- truck lines ascend
abbrev Ascend : List TruckLine → Type 0
Ascend lines = EachPair (λ (t u : TruckLine). truck_rank t < truck_rank u) lines

-- lines of other ranks are of other departures
other-departure : (t u : TruckLine) → truck_rank t ≢ truck_rank u → same_leg (departure t) (departure u) ≡ false
other-departure t u other =
    ⊎_elim
    (λ (h : same_leg (departure t) (departure u) ≡ true).
    absurd (other (ap (λ (k : Leg). rank_of k.depart k.arc) (same_leg-true (departure t) (departure u) h))))
    (λ (h : same_leg (departure t) (departure u) ≡ false). h)
    (cases_Bool (same_leg (departure t) (departure u)))

load_on-later : (t : TruckLine) (lines : List TruckLine) → AllByRecursion (λ (u : TruckLine). truck_rank t < truck_rank u) lines → load_on (departure t) lines ≡ 0
load_on-later t [] later = refl
load_on-later t (u ∷ lines) later =
    let other : same_leg (departure t) (departure u) ≡ false = other-departure t u (λ e. omega (arith, e, later.0)) in
    omega (arith, sum_by-cons (λ (v : TruckLine). if same_leg (departure t) (departure v) then v.load else 0) u lines, cond-false (same_leg (departure t) (departure u)) u.load 0 other, load_on-later t lines later.1)

-- where lines ascend each carries alone what is carried at its departure
load_on-one : (lines : List TruckLine) (i : ℕ) (d : TruckLine) → Ascend lines → i < length lines → load_on (departure (get_or lines i d)) lines ≡ (get_or lines i d).load
load_on-one [] i d ascend lt = absurd (omega (arith, lt))
load_on-one (t ∷ lines) zero d ascend lt =
    omega (
      arith,
      sum_by-cons (λ (v : TruckLine). if same_leg (departure t) (departure v) then v.load else 0) t lines,
      cond-true (same_leg (departure t) (departure t)) t.load 0 (same_leg-refl (departure t)),
      load_on-later t lines ascend.0,
    )
load_on-one (t ∷ lines) (suc i) d ascend lt =
    let u : TruckLine = get_or lines i d in
    let less : truck_rank t < truck_rank u = AllByRecursion-get_or (λ (v : TruckLine). truck_rank t < truck_rank v) lines i d ascend.0 (omega (arith, lt)) in
    let other : same_leg (departure u) (departure t) ≡ false = other-departure u t (λ e. omega (arith, e, less)) in
    omega (
      arith,
      sum_by-cons (λ (v : TruckLine). if same_leg (departure u) (departure v) then v.load else 0) t lines,
      cond-false (same_leg (departure u) (departure t)) t.load 0 other,
      load_on-one lines i d ascend.1 (omega (arith, lt)),
    )

shipments-from : (p : Problem) (i : ℕ) (shipments : List Shipment) → ((j : ℕ) → j < length shipments → shipment_at p (i + j) ≡ slice_index_or shipments j no_shipment) → ShipmentsFrom p i shipments
shipments-from p i [] each = tt
shipments-from p i (s ∷ shipments) each =
    let here : i + 0 ≡ i = omega arith in (
      sym (ap (shipment_at p) here) ∙ each 0 (omega arith),
      shipments-from p (i + 1) shipments (λ j lt.
          let on : i + 1 + j ≡ i + suc j = omega arith in
          ap (shipment_at p) on ∙ each (suc j) (omega (arith, lt))),
    )

-- what merged lines are to the routes whose leg lines were merged
pub record AreGathered (p : Problem) (routes : List (List Leg)) (lines : List TruckLine) : Type 0 where
  pub ascending : AllPairs (λ (t u : TruckLine). truck_rank t < truck_rank u) lines
  pub departures : (k : Leg) → has_leg k (map departure lines) ≡ has_leg k (all_legs routes)
  pub loads : All (λ (t : TruckLine). t.load ≡ load p.shipments routes (departure t)) lines
  pub arcs : All (λ (t : TruckLine). t.arc < length p.arcs) lines

AreGathered-merged : (p : Problem) (routes : List (List Leg)) (legs : List LegLine) (lines : List TruckLine) → length routes ≡ length p.shipments → AllRise routes →
    AllByRecursion (GoesByArc p) (all_legs routes) → IsPermutation (lines_from p 0 routes) legs → AreMerged p legs lines → AreGathered p routes lines
AreGathered-merged p routes legs lines long rise exist moved merged =
    let all : List LegLine = lines_from p 0 routes in
    let occur : (k : Leg) → has_leg k (map departure lines) ≡ has_leg k (all_legs routes) =
    λ k. merged.departures k ∙ occur-moved p routes legs moved k in
    let stand : ShipmentsFrom p 0 p.shipments =
    shipments-from p 0 p.shipments (λ j lt. let same : 0 + j ≡ j = omega arith in ap (shipment_at p) same) in
    let carried : (k : Leg) → size_on p k legs ≡ load p.shipments routes k =
    λ k.
    sum_by-IsPermutation (λ (l : LegLine). if same_leg k (line_leg l) then (shipment_at p l.shipment).size else 0) all legs moved
    ∙ size_on-lines p 0 p.shipments routes k long stand rise in
    record {
      ascending = merged.ascending;
      departures = occur;
      loads = All-from_get_or (λ (t : TruckLine). t.load ≡ load p.shipments routes (departure t)) lines no_line (λ i lt.
          let k : Leg = departure (get_or lines i no_line) in
          sym (load_on-one lines i no_line (EachPair-AllPairs (λ (t u : TruckLine). truck_rank t < truck_rank u) lines no_line merged.ascending) lt) ∙ merged.loads k ∙ carried k);
      arcs = arcs-of departure p routes lines exist occur;
    }

-- the lines of all legs of a plan, put in another order, go by arcs and shipments of the problem
pub LineExists-plan : (p : Problem) (plan : List (List Leg)) (legs : List LegLine) → IsValid p → IsPlan p 1 plan → IsPermutation (lines_from p 0 plan) legs →
    All (LineExists p) legs
LineExists-plan p plan legs valid is_plan moved = λ k d lt.
    let ready : IsReady p plan = IsReady-plan p plan valid is_plan in (
      arcs-of line_leg p plan legs ready.exist (occur-moved p plan legs moved) k d lt,
      omega (arith, (legs-moved p plan legs moved k d lt).shipment, ready.long),
    )

-- what was merged from them
pub gathered-plan : (p : Problem) (plan : List (List Leg)) (legs : List LegLine) (lines : List TruckLine) → IsValid p → IsPlan p 1 plan →
    IsPermutation (lines_from p 0 plan) legs → AreMerged p legs lines → AreGathered p plan lines
gathered-plan p plan legs lines valid is_plan moved merged =
    let ready : IsReady p plan = IsReady-plan p plan valid is_plan in
    AreGathered-merged p plan legs lines ready.long ready.rise ready.exist moved merged

map-departure : (p : Problem) (lines : List TruckLine) → map departure (map (with_trucks p) lines) ≡ map departure lines
map-departure p [] = refl
map-departure p (t ∷ lines) = ap (λ (legs : List Leg). departure t ∷ legs) (map-departure p lines)

-- with their trucks they are the truck lines
pub AreTruckLines-gathered : (p : Problem) (routes : List (List Leg)) (lines : List TruckLine) → length p.arcs ≤ MOST_ARCS → AreGathered p routes lines →
    AreTruckLines p routes (map (with_trucks p) lines)
AreTruckLines-gathered p routes lines few gathered =
    let same : (i : ℕ) (d : TruckLine) → i < length lines → get_or (map (with_trucks p) lines) i d ≡ with_trucks p (get_or lines i no_line) =
    λ i d lt. get_or_map (with_trucks p) lines i no_line d lt in
    let small : (i : ℕ) → i < length lines → (get_or lines i no_line).arc < 2 ^ 32 =
    λ i lt. omega (arith, All-get_or (λ (t : TruckLine). t.arc < length p.arcs) lines i no_line lt gathered.arcs, few) in
    record {
      ascending = λ i j d less lt.
          let short : j < length lines = rw length-map at lt in
          let t : TruckLine = get_or lines i no_line in
          let u : TruckLine = get_or lines j no_line in
          let there : Precedes (with_trucks p t).depart (with_trucks p t).arc (with_trucks p u).depart (with_trucks p u).arc =
          precedes t.depart t.arc u.depart u.arc (small i (omega (arith, less, short))) (small j short) (gathered.ascending i j no_line less short) in
          let first : TruckLine → Type 0 = λ v. Precedes v.depart v.arc (with_trucks p u).depart (with_trucks p u).arc in
          let second : TruckLine → Type 0 = λ v.
          Precedes (get_or (map (with_trucks p) lines) i d).depart (get_or (map (with_trucks p) lines) i d).arc v.depart v.arc in
          subst second (sym (same j d short)) (subst first (sym (same i d (omega (arith, less, short)))) there);
      departures = λ k. ap (λ (legs : List Leg). has_leg k legs) (map-departure p lines) ∙ gathered.departures k;
      trucks = All-map (λ (t : TruckLine). t.trucks ≡ trucks p routes (departure t)) (with_trucks p) lines
          (All-from_get_or (λ (t : TruckLine). (with_trucks p t).trucks ≡ trucks p routes (departure t)) lines no_line (λ i lt.
          ap (λ (n : ℕ). div_ceil n (arc_at p (get_or lines i no_line).arc).capacity)
          (All-get_or (λ (t : TruckLine). t.load ≡ load p.shipments routes (departure t)) lines i no_line lt gathered.loads)));
      loads = All-map (λ (t : TruckLine). t.load ≡ load p.shipments routes (departure t)) (with_trucks p) lines gathered.loads;
    }

-- a vector whose items were lent whole has what was written
pub whole : (n : ℕ) (xs ys : List TruckLine) → length xs ≡ length ys → n ≡ length ys → take n (xs ++ drop (length xs) ys) ≡ xs
whole n xs ys same all =
    let rest : drop (length xs) ys ≡ [] = drop_of_length-le ys (omega (arith, same)) in
    let joined : xs ++ drop (length xs) ys ≡ xs = ap (λ (zs : List TruckLine). xs ++ zs) rest ∙ append-nil xs in
    ap (take n) joined ∙ take_all n xs (omega (arith, same, all))
