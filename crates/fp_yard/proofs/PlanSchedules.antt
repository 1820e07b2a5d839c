-- The schedule of a plan is sound, and its journeys lead from origins to destinations.
use Rattle.std.proofs.Common.{◌≡◌, ◌≢◌, ◌∙◌, ℕ, zero, suc, ◌+◌, ◌-◌, ◌*◌, ◌^◌, ◌<◌, ◌≤◌, true, List, [], ◌∷◌, length, map, get_or, refl, sym, ap, subst, arith, ⊎_elim}
use Rattle.std.specs.Prelude.{All, AllPairs}
use Rattle.std.specs.List.{AllByRecursion, AllZip}
use Rattle.std.specs.declared.alloc.Global.{Global}
use Rattle.std.specs.declared.vec.Vec.{Vec}
use Rattle.std.proofs.Math.Nat.{eq-or-lt_of_le}
use Rattle.std.proofs.lemmas.Bool.{cases_lt}
use Rattle.std.proofs.lemmas.List.{get_or-map, get_or_default, length-map}
use Rattle.std.proofs.lemmas.List.Elements.{recursion_from_All}
use Rattle.std.proofs.lemmas.Slice.Zip.{AllZip-long}
use Rattle.fp_base_lists.specs.Order.{Precedes}
use Rattle.fp_base_lists.specs.Vectors.{lists_of}
use Rattle.fp_base_lists.proofs.DistinctSums.{length-distinct-le}
use Rattle.fp_base_lists.proofs.Elements.{AllByRecursion-append, AllByRecursion-from_get_or, AllByRecursion-get_or, AllByRecursion-weaker}
use Rattle.fp_base_lists.proofs.Maps.{get_or-map_default, lists_of-get_or}
use Rattle.fp_base_lists.proofs.Numbered.{AllZip-get_or}
use Rattle.fp_model.specs.declared.limits.TheConstants.{LATEST}
use Rattle.fp_model.specs.declared.parts.Leg.{Leg}
use Rattle.fp_model.specs.declared.parts.Shipment.{Shipment}
use Rattle.fp_model.specs.Costs.{all_legs, has_leg}
use Rattle.fp_model.specs.Faults.{place_before}
use Rattle.fp_model.specs.Members.{IsMemberOf}
use Rattle.fp_model.specs.Numbered.{leg_at, no_leg, no_shipment, route_at, shipment_at}
use Rattle.fp_model.specs.Plans.{IsPlan}
use Rattle.fp_model.specs.Problem.{IsShipment, IsValid, Problem, arc_at}
use Rattle.fp_model.specs.Routes.{Carries, arcs_of}
use Rattle.fp_model.proofs.LegByLeg.{AreDistinct-legs, Leads-last, Leads-legs, NeverReturns}
use Rattle.fp_model.proofs.Members.{has_leg-member}
use Rattle.fp_timetable.specs.declared.lines.TruckLine.{TruckLine}
use Rattle.fp_timetable.specs.Lines.{AreTruckLines, TruckExists, departure}
use Rattle.fp_timetable.specs.Order.{no_line}
use Rattle.fp_timetable.proofs.LegTimes.{Rise, Rise-ready}
use Rattle.fp_timetable.proofs.OrderedLines.{has-each}
use Rattle.fp_timetable.proofs.AllLines.{has_leg-get_or}
use Rattle.fp_yard.specs.Journeys.{AreAmong}
use Rattle.fp_yard.specs.Schedules.{HasEnds, IsJourney, IsScheduleOf, IsSound, Schedule, head_at, heads_of, journey_at, leg_of, line_at, tail_at, tails_of}
use Rattle.fp_model.proofs.LastArrivals.{legs-depart_by}

-- a leg departs before each later one
rise-at : (legs : List Leg) (i j : ℕ) → Rise legs → i < j → j < length legs → (leg_at legs i).depart < (leg_at legs j).depart
rise-at [] i j rise less lt = absurd (omega (arith, lt))
rise-at (l ∷ legs) i zero rise less lt = absurd (omega (arith, less))
rise-at (l ∷ legs) zero (suc j) rise less lt = AllByRecursion-get_or (λ (m : Leg). l.depart < m.depart) legs j no_leg rise.0 (omega (arith, lt))
rise-at (l ∷ legs) (suc i) (suc j) rise less lt = rise-at legs i j rise.1 (omega (arith, less)) (omega (arith, lt))

-- the journey of a shipment: its lines exist, and their legs are its route
record Follows (p : Problem) (lines : List TruckLine) (s : Schedule) (shipment : Shipment) (legs : List Leg) (journey : List ℕ) : Type 0 where
  carries : Carries p 1 shipment legs
  exist : (i : ℕ) → i < length journey → get_or journey i 0 < length lines
  are : map (leg_of lines) journey ≡ legs

-- the journeys of a plan follow its routes
follows : (p : Problem) (routes : List (List Leg)) (lines : List TruckLine) (s : Schedule) (k : ℕ) → IsPlan p 1 routes → IsScheduleOf p routes lines s →
    k < length s.journeys → Follows p lines s (shipment_at p k) (route_at routes k) (journey_at s k)
follows p routes lines s k plan of lt =
    let long : length routes ≡ length s.journeys = sym (ap (λ (rs : List (List Leg)). length rs) of.legs) ∙ length-map s.journeys (map (leg_of lines)) in
    record {
      carries = AllZip-get_or (Carries p 1) p.shipments routes k no_shipment [] plan (omega (arith, long, lt, AllZip-long (Carries p 1) p.shipments routes plan));
      exist = λ i within. of.exist k [] lt i 0 within;
      are = sym (get_or-map_default (map (leg_of lines)) s.journeys k []) ∙ ap (λ (rs : List (List Leg)). route_at rs k) of.legs;
    }

-- the leg of a line of a journey
leg-at : (p : Problem) (lines : List TruckLine) (s : Schedule) (shipment : Shipment) (legs : List Leg) (journey : List ℕ) (i : ℕ) → Follows p lines s shipment legs journey →
    i < length journey → leg_at legs i ≡ leg_of lines (get_or journey i 0)
leg-at p lines s shipment legs journey i f lt = ap (λ (ls : List Leg). leg_at ls i) (sym f.are) ∙ get_or-map (leg_of lines) journey i 0 no_leg lt

long-as : (p : Problem) (lines : List TruckLine) (s : Schedule) (shipment : Shipment) (legs : List Leg) (journey : List ℕ) → Follows p lines s shipment legs journey → length legs ≡ length journey
long-as p lines s shipment legs journey f = ap (λ (ls : List Leg). length ls) (sym f.are) ∙ length-map journey (leg_of lines)

-- a line of a journey leaves where the shipment is, and enters where its leg ends
tail-is : (p : Problem) (routes : List (List Leg)) (lines : List TruckLine) (s : Schedule) (shipment : Shipment) (legs : List Leg) (journey : List ℕ) (i : ℕ) →
    IsScheduleOf p routes lines s → Follows p lines s shipment legs journey → i < length journey → tail_at s (get_or journey i 0) ≡ place_before p shipment.from legs i
tail-is p routes lines s shipment legs journey i of f lt =
    let line : ℕ = get_or journey i 0 in
    ap (λ (ts : List ℕ). get_or ts line 0) of.tails
    ∙ get_or-map (λ (t : TruckLine). (arc_at p t.arc).from) lines line no_line 0 (f.exist i lt)
    ∙ ap (λ (l : Leg). (arc_at p l.arc).from) (sym (leg-at p lines s shipment legs journey i f lt))
    ∙ (Leads-legs p shipment.from shipment.to legs f.carries.route.leads i (omega (arith, lt, long-as p lines s shipment legs journey f))).1

head-is : (p : Problem) (routes : List (List Leg)) (lines : List TruckLine) (s : Schedule) (shipment : Shipment) (legs : List Leg) (journey : List ℕ) (i : ℕ) →
    IsScheduleOf p routes lines s → Follows p lines s shipment legs journey → i < length journey → head_at s (get_or journey i 0) ≡ place_before p shipment.from legs (suc i)
head-is p routes lines s shipment legs journey i of f lt =
    let line : ℕ = get_or journey i 0 in
    ap (λ (ts : List ℕ). get_or ts line 0) of.heads
    ∙ get_or-map (λ (t : TruckLine). (arc_at p t.arc).to) lines line no_line 0 (f.exist i lt)
    ∙ ap (λ (l : Leg). (arc_at p l.arc).to) (sym (leg-at p lines s shipment legs journey i f lt))

-- a journey has lines
some-lines : (lines : List TruckLine) (journey : List ℕ) → arcs_of (map (leg_of lines) journey) ≢ [] → 0 < length journey
some-lines lines [] some = absurd (some refl)
some-lines lines (l ∷ journey) some = omega arith

-- its lines have rising numbers
lines-rise : (p : Problem) (routes : List (List Leg)) (lines : List TruckLine) (s : Schedule) (shipment : Shipment) (legs : List Leg) (journey : List ℕ) (i j : ℕ) →
    IsValid p → AreTruckLines p routes lines → Follows p lines s shipment legs journey → i < j → j < length journey → get_or journey i 0 < get_or journey j 0
lines-rise p routes lines s shipment legs journey i j valid are f less lt =
    let a : ℕ = get_or journey i 0 in
    let b : ℕ = get_or journey j 0 in
    let rise : Rise legs = Rise-ready p shipment.from shipment.to (1 * shipment.release) legs valid f.carries.route.leads f.carries.ready in
    let times : (leg_at legs i).depart < (leg_at legs j).depart = rise-at legs i j rise less (omega (arith, lt, long-as p lines s shipment legs journey f)) in
    let first : (leg_at legs i).depart ≡ (line_at lines a).depart = ap (λ (l : Leg). l.depart) (leg-at p lines s shipment legs journey i f (omega (arith, less, lt))) in
    let second : (leg_at legs j).depart ≡ (line_at lines b).depart = ap (λ (l : Leg). l.depart) (leg-at p lines s shipment legs journey j f lt) in
    ⊎_elim
    (λ (before : a < b). before)
    (λ (after : b ≤ a).
    absurd
    (⊎_elim
    (λ (same : b ≡ a). omega (arith, times, first, second, ap (λ (n : ℕ). (line_at lines n).depart) same))
    (λ (later : b < a).
    ⊎_elim (λ earlier. omega (arith, times, first, second, earlier)) (λ together. omega (arith, times, first, second, together.0))
    (are.ascending b a no_line later (f.exist i (omega (arith, less, lt)))))
    (eq-or-lt_of_le after)))
    (cases_lt a b)

pub IsSound-plan : (p : Problem) (routes : List (List Leg)) (lines : List TruckLine) (s : Schedule) → IsValid p → IsPlan p 1 routes → AreTruckLines p routes lines →
    IsScheduleOf p routes lines s → IsSound s
IsSound-plan p routes lines s valid plan are of =
    let tails : length s.tails ≡ length lines = ap (λ (ts : List ℕ). length ts) of.tails ∙ length-map lines (λ (t : TruckLine). (arc_at p t.arc).from) in
    let heads : length s.heads ≡ length lines = ap (λ (ts : List ℕ). length ts) of.heads ∙ length-map lines (λ (t : TruckLine). (arc_at p t.arc).to) in
    record {
      ends = heads ∙ sym tails;
      journeys = λ k lt.
          let journey : List ℕ = journey_at s k in
          let legs : List Leg = route_at routes k in
          let shipment : Shipment = shipment_at p k in
          let f = follows p routes lines s k plan of lt in
          let never : NeverReturns p shipment.from legs = AreDistinct-legs p shipment.from legs f.carries.route.once in
          let long = long-as p lines s shipment legs journey f in
          record {
            some = some-lines lines journey (λ e. f.carries.route.some (ap arcs_of (sym f.are) ∙ e));
            exist = λ i within. omega (arith, f.exist i within, tails);
            rising = λ i j less within. lines-rise p routes lines s shipment legs journey i j valid are f less within;
            joined = λ i within.
                tail-is p routes lines s shipment legs journey (suc i) of f within
                ∙ sym (head-is p routes lines s shipment legs journey i of f (omega (arith, within)));
            apart = λ i j less within same.
                apart-places p shipment.from legs i j never less (omega (arith, within, long))
                (sym (tail-is p routes lines s shipment legs journey i of f (omega (arith, less, within))) ∙ same ∙ tail-is p routes lines s shipment legs journey j of f within);
          };
    }
  where
    apart-places : (p : Problem) (origin : ℕ) (legs : List Leg) (i j : ℕ) → NeverReturns p origin legs → i < j → j < length legs →
        place_before p origin legs i ≡ place_before p origin legs j → ⊥
    apart-places p origin legs i zero never less lt same = absurd (omega (arith, less))
    apart-places p origin legs i (suc j) never less lt same = never j i (omega (arith, less)) (omega (arith, lt)) same

pub HasEnds-plan : (p : Problem) (routes : List (List Leg)) (lines : List TruckLine) (s : Schedule) → IsValid p → IsPlan p 1 routes → AreTruckLines p routes lines →
    IsScheduleOf p routes lines s → HasEnds p s
HasEnds-plan p routes lines s valid plan are of k lt =
    let journey : List ℕ = journey_at s k in
    let legs : List Leg = route_at routes k in
    let shipment : Shipment = shipment_at p k in
    let long : length routes ≡ length s.journeys = sym (ap (λ (rs : List (List Leg)). length rs) of.legs) ∙ length-map s.journeys (map (leg_of lines)) in
    let exists : k < length s.journeys = omega (arith, long, lt, AllZip-long (Carries p 1) p.shipments routes plan) in
    let f = follows p routes lines s k plan of exists in
    let some : 0 < length journey = ((IsSound-plan p routes lines s valid plan are of).journeys k exists).some in
    let last : suc (length journey - 1) ≡ length legs = omega (arith, some, long-as p lines s shipment legs journey f) in (
      tail-is p routes lines s shipment legs journey 0 of f some,
      head-is p routes lines s shipment legs journey (length journey - 1) of f (omega (arith, some))
          ∙ ap (place_before p shipment.from legs) last
          ∙ Leads-last p shipment.from shipment.to legs f.carries.route.leads,
    )

-- a plan has as many journeys as shipments
pub many-journeys : (p : Problem) (routes : List (List Leg)) (lines : List TruckLine) (journeys : List (List ℕ)) → IsPlan p 1 routes → map (map (leg_of lines)) journeys ≡ routes →
    length journeys ≡ length p.shipments
many-journeys p routes lines journeys plan legs =
    omega (arith, ap (λ (rs : List (List Leg)). length rs) legs, length-map journeys (map (leg_of lines)), AllZip-long (Carries p 1) p.shipments routes plan)

-- they are few
pub few-journeys : (p : Problem) (routes : List (List Leg)) (lines : List TruckLine) (journeys : List (List ℕ)) → IsValid p → IsPlan p 1 routes → map (map (leg_of lines)) journeys ≡ routes →
    length journeys < 2 ^ 32
few-journeys p routes lines journeys valid plan legs =
    omega (arith, ap (λ (rs : List (List Leg)). length rs) legs, length-map journeys (map (leg_of lines)), AllZip-long (Carries p 1) p.shipments routes plan, valid.parts.few_shipments)

-- a line's number is no less than its place in a journey
place-le : (journey : List ℕ) (i : ℕ) → ((m n : ℕ) → m < n → n < length journey → get_or journey m 0 < get_or journey n 0) → i < length journey → i ≤ get_or journey i 0
place-le journey zero rising lt = omega arith
place-le journey (suc i) rising lt = omega (arith, place-le journey i rising (omega (arith, lt)), rising i (suc i) (omega arith) lt)

pub short-journeys : (s : Schedule) → IsSound s → length s.tails < 2 ^ 32 → All (λ journey. length journey < 2 ^ 32) s.journeys
short-journeys s sound few k d lt =
    let is : IsJourney s (journey_at s k) = sound.journeys k lt in
    let last : ℕ = length (journey_at s k) - 1 in
    let within : last < length (journey_at s k) = omega (arith, is.some) in
    let short : length (journey_at s k) < 2 ^ 32 = omega (arith, place-le (journey_at s k) last is.rising within, is.exist last within, few) in
    omega (arith, short, ap (λ (j : List ℕ). length j) (get_or_default s.journeys k d [] lt))

all-depart : (p : Problem) (n : ℕ) (shipments : List Shipment) (routes : List (List Leg)) → AllByRecursion (IsShipment n) shipments → AllZip (Carries p 1) shipments routes →
    AllByRecursion (λ (l : Leg). l.depart ≤ LATEST) (all_legs routes)
all-depart p n [] [] valid plan = tt
all-depart p n [] (r ∷ routes) valid plan = absurd plan
all-depart p n (s ∷ shipments) [] valid plan = absurd plan
all-depart p n (s ∷ shipments) (r ∷ routes) valid plan =
    AllByRecursion-append (λ (l : Leg). l.depart ≤ LATEST) r (all_legs routes)
    (AllByRecursion-weaker (λ (l : Leg). l.depart ≤ s.due) (λ (l : Leg). l.depart ≤ LATEST) (λ l h. omega (arith, h, valid.0.within.due)) r
    (legs-depart_by p (1 * s.release) s.due r plan.0.ready plan.0.due))
    (all-depart p n shipments routes valid.1 plan.1)

-- a line by one number, by its departure and then its arc
abbrev code : TruckLine → ℕ
code t = t.depart * 1000 + t.arc

code-differs : (t u : TruckLine) → t.arc < 1000 → u.arc < 1000 → Precedes t.depart t.arc u.depart u.arc → code t ≢ code u
code-differs t u small less precedes same =
    ⊎_elim (λ before. omega (arith, before, small, less, same)) (λ together. omega (arith, together.0, together.1, same)) precedes

-- the lines of a plan are few
pub few-lines : (p : Problem) (routes : List (List Leg)) (lines : List TruckLine) → IsValid p → IsPlan p 1 routes → AreTruckLines p routes lines → All (TruckExists p) lines →
    length lines < 2 ^ 32
few-lines p routes lines valid plan are exist =
    let codes : List ℕ = map code lines in
    let departs : AllByRecursion (λ (l : Leg). l.depart ≤ LATEST) (all_legs routes) =
    all-depart p (length p.terminals) p.shipments routes (recursion_from_All (IsShipment (length p.terminals)) p.shipments valid.parts.shipments) plan in
    let early : (i : ℕ) → i < length lines → (get_or lines i no_line).depart ≤ LATEST =
    λ i lt.
    let leg : Leg = departure (get_or lines i no_line) in
    let has : has_leg leg (map departure lines) ≡ true =
    has-leg-at (map departure lines) leg i (omega (arith, lt, length-map lines departure)) (get_or-map departure lines i no_line no_leg lt) in
    has-each (λ (l : Leg). l.depart ≤ LATEST) leg (all_legs routes) departs (sym (are.departures leg) ∙ has) in
    let small : (i : ℕ) → i < length lines → (get_or lines i no_line).arc < 1000 = λ i lt. omega (arith, exist i no_line lt, valid.parts.few_arcs) in
    let below : AllByRecursion (λ n. n < 100001000) codes =
    AllByRecursion-from_get_or (λ n. n < 100001000) codes 0
    (λ i lt.
    let within : i < length lines = omega (arith, lt, length-map lines code) in
    omega (arith, get_or-map code lines i no_line 0 within, early i within, small i within)) in
    let apart : AllPairs (λ m n. m ≢ n) codes =
    λ i j d less lt same.
    let second : j < length lines = omega (arith, lt, length-map lines code) in
    let first : i < length lines = omega (arith, less, second) in
    code-differs (get_or lines i no_line) (get_or lines j no_line) (small i first) (small j second) (are.ascending i j no_line less second)
    (sym (get_or-map code lines i no_line d first) ∙ same ∙ get_or-map code lines j no_line d second) in
    omega (arith, length-distinct-le 100001000 codes below apart, length-map lines code)
  where
    has-leg-at : (legs : List Leg) (leg : Leg) (i : ℕ) → i < length legs → get_or legs i no_leg ≡ leg → has_leg leg legs ≡ true
    has-leg-at legs leg i lt is = subst (λ (l : Leg). has_leg l legs ≡ true) is (has_leg-get_or legs i no_leg lt)

-- the legs of a plan's routes are departures of its lines
pub legs-among : (p : Problem) (vectors : List (Vec Leg Global)) (routes : List (List Leg)) (lines : List TruckLine) → lists_of vectors ≡ routes → AreTruckLines p routes lines →
    All (λ (v : Vec Leg Global). AreAmong lines v.items) vectors
legs-among p vectors routes lines same are k d lt i e within =
    let here : route_at (lists_of vectors) k ≡ (get_or vectors k d).items = lists_of-get_or vectors k d lt in
    let member : IsMemberOf (lists_of vectors) (record { shipment = k; leg = i }) =
    record { shipment = omega (arith, lt, length-map vectors (λ (v : Vec Leg Global). v.items)); leg = omega (arith, within, ap (λ (r : List Leg). length r) here) } in
    let leg : Leg = leg_at (route_at (lists_of vectors) k) i in
    let is : leg ≡ get_or (get_or vectors k d).items i e = ap (λ (r : List Leg). get_or r i no_leg) here ∙ get_or_default (get_or vectors k d).items i no_leg e within in
    let has : has_leg leg (all_legs (lists_of vectors)) ≡ true = has_leg-member (lists_of vectors) (record { shipment = k; leg = i }) member in
    subst (λ (l : Leg). has_leg l (map departure lines) ≡ true) is
    (are.departures leg ∙ subst (λ (rs : List (List Leg)). has_leg leg (all_legs rs) ≡ true) same has)

-- the schedule that was made of lines and routes
pub made-schedule : (p : Problem) (routes : List (List Leg)) (lines given : List TruckLine) (vectors others : List (Vec Leg Global)) (journeys : List (List ℕ)) → given ≡ lines → others ≡ vectors →
    lists_of vectors ≡ routes → All (All (λ line. line < length given)) journeys → map (map (leg_of given)) journeys ≡ lists_of others →
    IsScheduleOf p routes lines (record { tails = tails_of p lines; heads = heads_of p lines; journeys = journeys })
made-schedule p routes lines given vectors others journeys same also whole exist legs = record {
  tails = refl;
  heads = refl;
  legs = subst (λ (ls : List TruckLine). map (map (leg_of ls)) journeys ≡ routes) same (legs ∙ ap lists_of also ∙ whole);
  exist = subst (λ (ls : List TruckLine). All (All (λ line. line < length ls)) journeys) same exist;
}

-- so are the terminals that they leave
pub few-tails : (p : Problem) (lines : List TruckLine) → length lines < 2 ^ 32 → length (tails_of p lines) < 2 ^ 32
few-tails p lines few = omega (arith, few, length-map lines (λ (t : TruckLine). (arc_at p t.arc).from))
