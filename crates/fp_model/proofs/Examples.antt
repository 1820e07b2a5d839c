-- The definitions, worked on small instances.
use Rattle.std.proofs.Common.{◌≡◌, ℕ, ◌*◌, ◌≤◌, List, [], ◌∷◌, inl, inr, refl, lit≤, lit<}
use Rattle.fp_base_lists.proofs.Distinct.{AreDistinct-cons, AreDistinct-nil}
use Rattle.fp_model.specs.declared.faults.PlanKind.TheVariants.{Count, NotRoute, TerminalTwice, BeforeRelease, BeforeArrival, AfterDue}
use Rattle.fp_model.specs.declared.parts.Arc.{Arc}
use Rattle.fp_model.specs.declared.parts.Leg.{Leg}
use Rattle.fp_model.specs.declared.parts.Shipment.{Shipment}
use Rattle.fp_model.specs.Problem.{Problem, horizon, weight}
use Rattle.fp_model.specs.Costs.{cost, load}
use Rattle.fp_model.specs.TruckCounts.{trucks_between}
use Rattle.fp_model.specs.Faults.{HasFault}
use Rattle.fp_model.specs.Plans.{IsPlan}
use Rattle.fp_model.specs.Routes.{Carries, walk_time}

-- an arc of time 5, capacity 10, truck 100 and freight 1
abbrev pub arc_between : ℕ → ℕ → Arc
arc_between from to = record { from = from; to = to; time = 5; capacity = 10; truck = 100; freight = 1 }

-- two terminals, and that arc from the one to the other
abbrev pub one_arc : List Shipment → Problem
one_arc shipments = record {
  terminals = (65 ∷ []) ∷ (66 ∷ []) ∷ [];
  holds = 0 ∷ 0 ∷ [];
  arcs = arc_between 0 1 ∷ [];
  shipments = shipments;
  scale = 1000000;
}

-- a shipment from one terminal to another
abbrev pub shipment_to : ℕ → (to size release due : ℕ) → Shipment
shipment_to number to size release due = record { name = 83 ∷ number ∷ []; from = 0; to = to; size = size; release = release; due = due }

-- a leg over the arc with a number
abbrev pub leaving : (arc depart : ℕ) → Leg
leaving arc depart = record { arc = arc; depart = depart }

-- a route of the one arc
abbrev pub over : ℕ → List Leg
over depart = leaving 0 depart ∷ []

-- one shipment of size 4
abbrev pub one : Problem
one = one_arc (shipment_to 49 1 4 0 10 ∷ [])

-- two shipments of sizes 4 and 5
abbrev pub two : Problem
two = one_arc (shipment_to 49 1 4 0 10 ∷ shipment_to 50 1 5 3 12 ∷ [])

one_costs : cost one (over 0 ∷ []) ≡ 104
one_costs = refl

apart_cost : cost two (over 0 ∷ over 3 ∷ []) ≡ 209
apart_cost = refl

together_cost : cost two (over 3 ∷ over 3 ∷ []) ≡ 109
together_cost = refl

together_load : load two.shipments (over 3 ∷ over 3 ∷ []) (leaving 0 3) ≡ 9
together_load = refl

-- two legs of one departure that one truck carries count once; apart they count twice, and only where
-- they leave in the run: from its beginning on, and before its end
together_count : trucks_between two 1 (over 3 ∷ over 3 ∷ []) 0 0 10 ≡ 1
together_count = refl

apart_count : trucks_between two 1 (over 0 ∷ over 3 ∷ []) 0 0 4 ≡ 2
apart_count = refl

run_count : trucks_between two 1 (over 0 ∷ over 3 ∷ []) 0 0 3 ≡ 1
run_count = refl

later_count : trucks_between two 1 (over 0 ∷ over 3 ∷ []) 0 1 3 ≡ 0
later_count = refl

-- by another arc none leaves
elsewhere_count : trucks_between two 1 (over 0 ∷ over 3 ∷ []) 1 0 10 ≡ 0
elsewhere_count = refl

-- over the denominator 2 a leg at 7 leaves at 3.5
half_count : trucks_between two 2 (over 7 ∷ over 8 ∷ []) 0 3 4 ≡ 1
half_count = refl

-- sizes 6 and 5 need two trucks together
two_trucks_cost : cost (one_arc (shipment_to 49 1 6 0 10 ∷ shipment_to 50 1 5 0 10 ∷ [])) (over 5 ∷ over 5 ∷ []) ≡ 211
two_trucks_cost = refl

-- a size of 25 needs three trucks
three_trucks_cost : cost (one_arc (shipment_to 49 1 25 0 10 ∷ [])) (over 0 ∷ []) ≡ 325
three_trucks_cost = refl

one_weighs : weight one.arcs one.shipments ≡ 6815744000000
one_weighs = refl

two_end : horizon two.shipments ≡ 12
two_end = refl

-- over the denominator 2, a leg over the arc that leaves at 7 halves carries a shipment
carried : (others : List Shipment) (size release due number : ℕ) → 2 * release ≤ 7 → 17 ≤ 2 * due →
    Carries (one_arc others) 2 (shipment_to number 1 size release due) (over 7)
carried others size release due number after before = record {
  route = record { some = λ e. cc; leads = (lit< tt, refl, refl); once = AreDistinct-cons 0 (1 ∷ []) ((λ e. cc), tt) (AreDistinct-cons 1 [] tt AreDistinct-nil) };
  ready = (after, tt);
  due = before;
}

-- both leave at 3 1/2, over the denominator 2
together_between : IsPlan two 2 (over 7 ∷ over 7 ∷ [])
together_between = (carried _ 4 0 10 49 (lit≤ tt) (lit≤ tt), (carried _ 5 3 12 50 (lit≤ tt) (lit≤ tt), tt))

-- two arcs one after the other, with a hold of 2 at the terminal between them, and an arc back
abbrev pub held : Problem
held = record {
  terminals = (65 ∷ []) ∷ (66 ∷ []) ∷ (67 ∷ []) ∷ [];
  holds = 0 ∷ 2 ∷ 4 ∷ [];
  arcs = arc_between 0 1 ∷ arc_between 1 2 ∷ arc_between 1 0 ∷ [];
  shipments = shipment_to 49 2 4 1 13 ∷ [];
  scale = 1000000;
}

-- the hold of the last terminal does not count
held_time : walk_time held (0 ∷ 1 ∷ []) ≡ 12
held_time = refl

-- legs that leave at 1 and at 8 carry the shipment in time
held_plan : IsPlan held 1 ((leaving 0 1 ∷ leaving 1 8 ∷ []) ∷ [])
held_plan = (
  record {
    route = record { some = λ e. cc; leads = (lit< tt, refl, (lit< tt, refl, refl)); once = AreDistinct-cons 0 (1 ∷ 2 ∷ []) ((λ e. cc), ((λ e. cc), tt)) (AreDistinct-cons 1 (2 ∷ []) ((λ e. cc), tt) (AreDistinct-cons 2 [] tt AreDistinct-nil)) };
    ready = (lit≤ tt, (lit≤ tt, tt));
    due = lit≤ tt;
  },
  tt,
)

missing : HasFault held [] Count 0 0
missing = (λ e. cc, refl, refl)

empty : HasFault held ([] ∷ []) NotRoute 0 0
empty = (lit< tt, lit< tt, inl (refl, refl))

-- the last leg does not enter the destination
unfinished : HasFault held ((leaving 0 1 ∷ []) ∷ []) NotRoute 0 0
unfinished = (lit< tt, lit< tt, inr (lit< tt, inr (inr (refl, λ e. cc))))

-- the second leg enters the origin
returned : HasFault held ((leaving 0 1 ∷ leaving 2 8 ∷ []) ∷ []) TerminalTwice 0 1
returned = (lit< tt, lit< tt, (lit< tt, (0, lit≤ tt, refl)))

early : HasFault held ((leaving 0 0 ∷ leaving 1 8 ∷ []) ∷ []) BeforeRelease 0 0
early = (lit< tt, lit< tt, (lit< tt, refl, lit< tt))

-- the second leg leaves after the arrival, but before the hold has passed
unheld : HasFault held ((leaving 0 1 ∷ leaving 1 7 ∷ []) ∷ []) BeforeArrival 0 1
unheld = (lit< tt, lit< tt, (lit< tt, lit< tt))

late : HasFault held ((leaving 0 1 ∷ leaving 1 9 ∷ []) ∷ []) AfterDue 0 1
late = (lit< tt, lit< tt, (lit< tt, (refl, lit< tt)))
