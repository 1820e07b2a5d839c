-- The numbers of the lines of a plan are in range.
use Rattle.std.proofs.Common.{◌≡◌, ℕ, zero, suc, ◌+◌, ◌*◌, ◌<◌, ◌≤◌, true, false, List, [], ◌∷◌, length, get_or, map, ⊎_elim, sym, ◌∙◌, arith}
use Rattle.std.specs.Prelude.{All}
use Rattle.std.specs.List.{AllByRecursion, AllZip}
use Rattle.std.specs.Int.{div_ceil}
use Rattle.std.proofs.Math.Nat.{mul-le-mul_left}
use Rattle.std.proofs.lemmas.Bool.{cases_Bool, cond-false, cond-true, or_left, or_right}
use Rattle.std.proofs.lemmas.List.Elements.{All-get_or, All-head, All-tail}
use Rattle.fp_base_lists.proofs.Ceilings.{div_ceil-least}
use Rattle.fp_base_lists.proofs.Elements.{AllByRecursion-append, AllByRecursion-weaker}
use Rattle.fp_model.specs.declared.limits.TheConstants.{GREATEST_AMOUNT, LATEST}
use Rattle.fp_model.specs.declared.parts.Leg.{Leg}
use Rattle.fp_model.specs.declared.parts.Shipment.{Shipment}
use Rattle.fp_model.specs.Costs.{all_legs, has_leg, load, same_leg}
use Rattle.fp_model.specs.Plans.{IsPlan}
use Rattle.fp_model.specs.Problem.{IsArc, IsShipment, IsValid, Problem, arc_at, no_arc}
use Rattle.fp_model.specs.Routes.{ArrivesBy, Carries, LeavesReady, step}
use Rattle.fp_model.proofs.Distinct.{same_leg-refl}
use Rattle.fp_model.proofs.Members.{has_leg-all_legs}
use Rattle.fp_certificate_lines.specs.Ranges.{IsLegInRange, IsTruckInRange}
use Rattle.fp_timetable.specs.declared.lines.LegLine.{LegLine}
use Rattle.fp_timetable.specs.declared.lines.TruckLine.{TruckLine}
use Rattle.fp_timetable.specs.Lines.{AreLegLines, AreTruckLines, IsLegLine, LegExists, TruckExists, departure, line_leg}
use Rattle.fp_timetable.proofs.OrderedLines.{has-each}

-- a leg arrives by a time
abbrev ArrivesTill : Problem → ℕ → Leg → Type 0
ArrivesTill p due l = l.depart + (arc_at p l.arc).time ≤ due

-- the legs of a route that is in time arrive by its due time
arrive-till : (p : Problem) (ready due : ℕ) (legs : List Leg) → LeavesReady p 1 ready legs → ArrivesBy p 1 due legs → AllByRecursion (ArrivesTill p due) legs
arrive-till p ready due [] leaves arrives = tt
arrive-till p ready due (l ∷ []) leaves arrives = (omega (arith, arrives), tt)
arrive-till p ready due (l ∷ m ∷ legs) leaves arrives =
    let rest : AllByRecursion (ArrivesTill p due) (m ∷ legs) = arrive-till p (l.depart + 1 * step p l.arc) due (m ∷ legs) leaves.1 arrives in
    (omega (arith, rest.0, leaves.1.0), rest)

-- so those of all routes arrive by the latest time
all-arrive : (p : Problem) (ss : List Shipment) (R : List (List Leg)) → All (IsShipment (length p.terminals)) ss → AllZip (Carries p 1) ss R → AllByRecursion (ArrivesTill p LATEST) (all_legs R)
all-arrive p [] [] are plan = tt
all-arrive p [] (r ∷ R) are plan = absurd plan
all-arrive p (s ∷ ss) [] are plan = absurd plan
all-arrive p (s ∷ ss) (r ∷ R) are plan =
    let due : s.due ≤ LATEST = (All-head (IsShipment (length p.terminals)) s ss are).within.due in
    AllByRecursion-append (ArrivesTill p LATEST) r (all_legs R)
    (AllByRecursion-weaker (ArrivesTill p s.due) (ArrivesTill p LATEST) (λ l till. omega (arith, till, due)) r (arrive-till p (1 * s.release) s.due r plan.0.ready plan.0.due))
    (all-arrive p ss R (All-tail (IsShipment (length p.terminals)) s ss are) plan.1)

-- the leg lines of a plan are in range
pub legs-in_range : (p : Problem) (R : List (List Leg)) (lines : List LegLine) → IsValid p → IsPlan p 1 R → AreLegLines p R lines → All (LegExists p) lines → All (IsLegInRange p) lines
legs-in_range p R lines valid plan are exist = λ i d lt.
    let l : LegLine = get_or lines i d in
    let leg : IsLegLine p R l = are.legs i d lt in
    let till : ArrivesTill p LATEST (line_leg l) =
    has-each (ArrivesTill p LATEST) (line_leg l) (all_legs R) (all-arrive p p.shipments R valid.parts.shipments plan) (has_leg-all_legs R l.shipment (line_leg l) leg.leg) in
    record { exists = exist i d lt; depart = omega (arith, till); arrive = omega (arith, till, leg.arrive) }

-- a departure of a line is among those of the lines
has-departure : (lines : List TruckLine) (i : ℕ) (d : TruckLine) → i < length lines → has_leg (departure (get_or lines i d)) (map departure lines) ≡ true
has-departure [] i d lt = absurd (omega (arith, lt))
has-departure (t ∷ lines) zero d lt = or_left (same_leg (departure t) (departure t)) (has_leg (departure t) (map departure lines)) (same_leg-refl (departure t))
has-departure (t ∷ lines) (suc i) d lt =
    or_right (same_leg (departure (get_or lines i d)) (departure t)) (has_leg (departure (get_or lines i d)) (map departure lines)) (has-departure lines i d (omega (arith, lt)))

-- a load is at most as many of the greatest size as there are shipments
load-le : (n : ℕ) (ss : List Shipment) (R : List (List Leg)) (k : Leg) → All (IsShipment n) ss → load ss R k ≤ length ss * GREATEST_AMOUNT
load-le n [] R k are = omega arith
load-le n (s ∷ ss) [] k are = omega arith
load-le n (s ∷ ss) (r ∷ R) k are =
    let rest : load ss R k ≤ length ss * GREATEST_AMOUNT = load-le n ss R k (All-tail (IsShipment n) s ss are) in
    let size : s.size ≤ GREATEST_AMOUNT = (All-head (IsShipment n) s ss are).within.size.1 in
    ⊎_elim
    (λ (h : has_leg k r ≡ true). omega (arith, cond-true (has_leg k r) s.size 0 h, rest, size))
    (λ (h : has_leg k r ≡ false). omega (arith, cond-false (has_leg k r) s.size 0 h, rest))
    (cases_Bool (has_leg k r))

-- the truck lines of a plan are in range
pub trucks-in_range : (p : Problem) (R : List (List Leg)) (lines : List TruckLine) → IsValid p → IsPlan p 1 R → AreTruckLines p R lines → All (TruckExists p) lines → All (IsTruckInRange p) lines
trucks-in_range p R lines valid plan are exist = λ i d lt.
    let t : TruckLine = get_or lines i d in
    let k : Leg = departure t in
    let till : ArrivesTill p LATEST k =
    has-each (ArrivesTill p LATEST) k (all_legs R) (all-arrive p p.shipments R valid.parts.shipments plan) (sym (are.departures k) ∙ has-departure lines i d lt) in
    let most : load p.shipments R k ≤ length p.shipments * GREATEST_AMOUNT = load-le (length p.terminals) p.shipments R k valid.parts.shipments in
    let arc : IsArc (length p.terminals) (arc_at p t.arc) = All-get_or (IsArc (length p.terminals)) p.arcs t.arc no_arc (exist i d lt) valid.parts.arcs in
    let cap : ℕ = (arc_at p t.arc).capacity in
    let some : 1 ≤ cap = arc.within.capacity.0 in
    let times : load p.shipments R k * 1 ≤ load p.shipments R k * cap = mul-le-mul_left (load p.shipments R k) some in
    let few : div_ceil (load p.shipments R k) cap ≤ load p.shipments R k = div_ceil-least (load p.shipments R k) cap (load p.shipments R k) (omega (arith, some)) (omega (arith, times)) in
    let number : t.trucks ≡ div_ceil (load p.shipments R k) cap = are.trucks i d lt in
    let own : t.load ≡ load p.shipments R k = are.loads i d lt in
    let count : length p.shipments ≤ 500 = omega (arith, valid.parts.few_shipments) in
    record {
      exists = exist i d lt;
      depart = omega (arith, till);
      trucks = omega (arith, number, few, most, count);
      load = omega (arith, own, most, count);
    }
