-- What the lines need of the routes of a plan.
use Rattle.std.proofs.Common.{◌≡◌, ℕ, ◌*◌, ◌^◌, ◌<◌, ◌≤◌, List, [], ◌∷◌, length, sym, subst, arith}
use Rattle.std.specs.Prelude.{All}
use Rattle.std.specs.List.{AllZip, AllByRecursion}
use Rattle.std.specs.declared.alloc.Global.{Global}
use Rattle.std.specs.declared.vec.Vec.{Vec}
use Rattle.std.proofs.lemmas.List.Elements.{All-cons, All-nil, All-tail, All-get_or}
use Rattle.std.proofs.lemmas.Slice.Zip.{AllZip-long}
use Rattle.fp_model.specs.declared.limits.TheConstants.{MOST_SHIPMENTS}
use Rattle.fp_model.specs.declared.parts.Leg.{Leg}
use Rattle.fp_model.specs.declared.parts.Shipment.{Shipment}
use Rattle.fp_model.specs.Costs.{all_legs}
use Rattle.fp_base_lists.specs.Vectors.{lists_of}
use Rattle.fp_model.specs.Plans.{IsPlan}
use Rattle.fp_model.specs.Problem.{Problem, IsShipment, IsValid}
use Rattle.fp_model.specs.Routes.{Carries, arcs_of}
use Rattle.fp_model.proofs.Bounds.{Leads-exist, length-lists_of}
use Rattle.fp_timetable.specs.Order.{ArriveWithin}
use Rattle.fp_base_lists.proofs.Elements.{AllByRecursion-append}
use Rattle.fp_timetable.proofs.DepartureLoads.{AllRise}
use Rattle.fp_timetable.proofs.LegTimes.{ArriveWithin-ready, Rise-ready}

-- each shipment is due within 32 bits
abbrev AreDue : List Shipment → Type 0
AreDue shipments = AllByRecursion (λ (s : Shipment). s.due < 2 ^ 32) shipments

due-small : (n : ℕ) (shipments : List Shipment) → All (IsShipment n) shipments → AreDue shipments
due-small n [] all = tt
due-small n (s ∷ shipments) all =
    let first : IsShipment n s = All-get_or (IsShipment n) (s ∷ shipments) 0 s (omega arith) all in
    (omega (arith, first.within.due), due-small n shipments (All-tail (IsShipment n) s shipments all))

rises : (p : Problem) (shipments : List Shipment) (routes : List (List Leg)) → IsValid p → AllZip (Carries p 1) shipments routes → AllRise routes
rises p [] [] valid plan = tt
rises p [] (r ∷ routes) valid plan = absurd plan
rises p (s ∷ shipments) [] valid plan = absurd plan
rises p (s ∷ shipments) (r ∷ routes) valid plan = (Rise-ready p s.from s.to (1 * s.release) r valid plan.0.route.leads plan.0.ready, rises p shipments routes valid plan.1)

arrive : (p : Problem) (shipments : List Shipment) (routes : List (Vec Leg Global)) → AreDue shipments → AllZip (Carries p 1) shipments (lists_of routes) →
    All (λ (r : Vec Leg Global). ArriveWithin p r.items) routes
arrive p [] [] due plan = All-nil (λ (r : Vec Leg Global). ArriveWithin p r.items)
arrive p [] (r ∷ routes) due plan = absurd plan
arrive p (s ∷ shipments) [] due plan = absurd plan
arrive p (s ∷ shipments) (r ∷ routes) due plan =
    All-cons (λ (r : Vec Leg Global). ArriveWithin p r.items) r routes
    (ArriveWithin-ready p s.from s.to (1 * s.release) s.due r.items due.0 plan.0.route.leads plan.0.ready plan.0.due)
    (arrive p shipments routes due.1 plan.1)

-- a leg by an arc of the problem
abbrev pub GoesByArc : Problem → Leg → Type 0
GoesByArc p l = l.arc < length p.arcs

GoesByArc-arcs : (p : Problem) (legs : List Leg) → AllByRecursion (λ a. a < length p.arcs) (arcs_of legs) → AllByRecursion (GoesByArc p) legs
GoesByArc-arcs p [] all = tt
GoesByArc-arcs p (l ∷ legs) all = (all.0, GoesByArc-arcs p legs all.1)

exist : (p : Problem) (shipments : List Shipment) (routes : List (List Leg)) → AllZip (Carries p 1) shipments routes → AllByRecursion (GoesByArc p) (all_legs routes)
exist p [] [] plan = tt
exist p [] (r ∷ routes) plan = absurd plan
exist p (s ∷ shipments) [] plan = absurd plan
exist p (s ∷ shipments) (r ∷ routes) plan =
    AllByRecursion-append (GoesByArc p) r (all_legs routes) (GoesByArc-arcs p r (Leads-exist p s.from (arcs_of r) s.to plan.0.route.leads)) (exist p shipments routes plan.1)

-- what making the lines needs of routes
pub record AreReady (p : Problem) (routes : List (Vec Leg Global)) : Type 0 where
  pub few : length routes ≤ MOST_SHIPMENTS
  pub arrive : All (λ (r : Vec Leg Global). ArriveWithin p r.items) routes

-- what ordering the lines needs of a plan
pub record IsReady (p : Problem) (plan : List (List Leg)) : Type 0 where
  pub few : length plan ≤ MOST_SHIPMENTS
  pub long : length plan ≡ length p.shipments
  pub rise : AllRise plan
  pub exist : AllByRecursion (GoesByArc p) (all_legs plan)

pub AreReady-plan : (p : Problem) (routes : List (Vec Leg Global)) (plan : List (List Leg)) → lists_of routes ≡ plan → IsValid p → IsPlan p 1 plan → AreReady p routes
AreReady-plan p routes plan same valid is_plan =
    let here : IsPlan p 1 (lists_of routes) = subst (λ (R : List (List Leg)). IsPlan p 1 R) (sym same) is_plan in
    record {
      few = omega (arith, AllZip-long (Carries p 1) p.shipments (lists_of routes) here, length-lists_of routes, valid.parts.few_shipments);
      arrive = arrive p p.shipments routes (due-small (length p.terminals) p.shipments valid.parts.shipments) here;
    }

pub IsReady-plan : (p : Problem) (plan : List (List Leg)) → IsValid p → IsPlan p 1 plan → IsReady p plan
IsReady-plan p plan valid is_plan =
    let long : length plan ≡ length p.shipments = AllZip-long (Carries p 1) p.shipments plan is_plan in
    record {
      few = omega (arith, long, valid.parts.few_shipments);
      long = long;
      rise = rises p p.shipments plan valid is_plan;
      exist = exist p p.shipments plan is_plan;
    }
