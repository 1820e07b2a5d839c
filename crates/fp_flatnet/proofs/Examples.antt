-- The definitions on two arcs, from A to B in 4 and from B to C in 5, with a shipment from A to C
-- and one from B to C that is due at 8.
use Rattle.std.proofs.Common.{◌≡◌, ℕ, List, [], ◌∷◌, Some, None, refl, arith, lit≤}
use Rattle.fp_model.specs.declared.parts.Arc.{Arc}
use Rattle.fp_model.specs.declared.parts.Leg.{Leg}
use Rattle.fp_model.specs.declared.parts.Shipment.{Shipment}
use Rattle.fp_model.specs.Numbered.{shipment_at}
use Rattle.fp_model.specs.Problem.{Problem}
use Rattle.fp_model.specs.Times.{IsLeastTime}
use Rattle.fp_flatnet.specs.Initial.{initial_points}
use Rattle.fp_flatnet.specs.Tables.{WindowTable, closed, narrowed, windows_in}
use Rattle.fp_flatnet.specs.Windows.{IsWindow, PlanLiesWithin, PlanLiesWithinWhole, time_before, time_after}
use Rattle.fp_flatnet.proofs.PromptLegs.{at_once}

-- an arc of a time
abbrev arc_of : (from to time : ℕ) → Arc
arc_of from to time = record { from = from; to = to; time = time; capacity = 10; truck = 100; freight = 0 }

-- a shipment of size 4
abbrev shipment_of : (number from to due : ℕ) → Shipment
shipment_of number from to due = record { name = 83 ∷ number ∷ []; from = from; to = to; size = 4; release = 0; due = due }

-- the instance, with a hold at B, and a due time of the first shipment
abbrev two_arcs : (hold due : ℕ) → Problem
two_arcs hold due = record {
  terminals = (65 ∷ []) ∷ (66 ∷ []) ∷ (67 ∷ []) ∷ [];
  holds = 0 ∷ hold ∷ 0 ∷ [];
  arcs = arc_of 0 1 4 ∷ arc_of 1 2 5 ∷ [];
  shipments = shipment_of 49 0 2 due ∷ shipment_of 50 1 2 8 ∷ [];
  scale = 1000000;
}

-- the hold counts at B on the way, and not at an origin
held_before : time_before (two_arcs 1 10) (shipment_at (two_arcs 1 10) 0) 1 4 ≡ 5
held_before = refl

held_after : time_after (two_arcs 1 10) (shipment_at (two_arcs 1 10) 0) 0 5 ≡ 10
held_after = refl

free_at_origin : time_before (two_arcs 1 10) (shipment_at (two_arcs 1 10) 1) 1 0 ≡ 0
free_at_origin = refl

free_at_destination : time_after (two_arcs 1 10) (shipment_at (two_arcs 1 10) 1) 1 0 ≡ 5
free_at_destination = refl

-- what leaves at once leaves B at 5 where there is a hold of 1
held_legs : at_once (two_arcs 1 10) 0 (0 ∷ 1 ∷ []) ≡ record { arc = 0; depart = 0 } ∷ record { arc = 1; depart = 5 } ∷ []
held_legs = refl

-- a walk takes no time where it ends where it begins
stay : (here : ℕ) → IsLeastTime (two_arcs 0 9) here here 0
stay here = record { arcs = []; leads = refl; time = refl; least = λ others leads. omega arith }

-- the second shipment can leave by the second arc from 0 to 3
second_window : IsWindow (two_arcs 0 9) (shipment_at (two_arcs 0 9) 1) 1 (record { lo = 0; hi = 3 })
second_window = record {
  before = 0;
  after = 0;
  to_tail = stay 1;
  from_head = stay 2;
  lo = refl;
  hi = refl;
  some = lit≤ tt;
  leaves = λ e. cc;
  enters = λ e. cc;
}

-- the initial points: at C both due times, and at B its release and, once its window is narrowed,
-- the start
points_at_c : initial_points (two_arcs 0 9) [] 2 ≡ 0 ∷ 9 ∷ 8 ∷ []
points_at_c = refl

points_at_b : initial_points (two_arcs 0 9) (record { terminal = 1; at = 2 } ∷ []) 1 ≡ 0 ∷ 0 ∷ 2 ∷ []
points_at_b = refl

-- the second shipment's row alone
abbrev one_row : WindowTable
one_row = record { tails = 0 ∷ 1 ∷ []; rows = (None ∷ Some (record { lo = 0; hi = 3 }) ∷ []) ∷ []; anchors = [] }

-- over the denominator 2, a leg by the second arc at 7, which is half a unit after the window's end: it lies within by its whole
-- moment, and not by its own
abbrev half_past : List (List Leg)
half_past = (record { arc = 1; depart = 7 } ∷ []) ∷ []

half_past_whole : PlanLiesWithinWhole (windows_in one_row) 2 half_past
half_past_whole = (((lit≤ tt, lit≤ tt), tt), tt)

half_past_own : PlanLiesWithin (windows_in one_row) 2 half_past → ⊥
half_past_own within = omega (arith, within.0.0.1)

-- a whole unit after the end it doesn't lie within by its whole moment either
later_whole : PlanLiesWithinWhole (windows_in one_row) 2 ((record { arc = 1; depart = 8 } ∷ []) ∷ []) → ⊥
later_whole within = omega (arith, within.0.0.1)

narrowed_window : windows_in (narrowed one_row 0 1 2 2) 0 1 ≡ Some (record { lo = 2; hi = 2 })
narrowed_window = refl

narrowed_anchors : (narrowed one_row 0 1 2 2).anchors ≡ record { terminal = 1; at = 2 } ∷ []
narrowed_anchors = refl

closed_window : windows_in (closed one_row 0 1) 0 1 ≡ None
closed_window = refl
