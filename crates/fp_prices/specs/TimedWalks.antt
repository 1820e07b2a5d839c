-- How far a shipment comes on a walk of classes, class by class.
use Rattle.std.specs.Prelude.{ℕ, ◌-◌, List, Bool, ◌&&◌, nat_eq, nat_le, nat_lt, length, Option, None, Some, if◌then◌else◌}
use Rattle.std.specs.Option.{option_and_then}
use Rattle.fp_base_lists.specs.Membership.{list_has}
use Rattle.fp_labels.specs.Walks.{cost_of}
use Rattle.fp_model.specs.declared.parts.Leg.{Leg}
use Rattle.fp_model.specs.Problem.{Problem, arc_at}
use Rattle.fp_timenodes.specs.declared.places.Place.{Place}
use Rattle.fp_longestarcs.specs.Classes.{head_of}
use Rattle.fp_longestarcs.specs.Networks.{TimedNetwork, class_number, points_in, tail_in}
use Rattle.fp_prices.specs.declared.graphs.timed_walks.Progress.{Progress}

-- the cost of a leg that is a class of the network, where the class has one
abbrev pub open_cost : TimedNetwork → List (Option ℕ) → Leg → Option ℕ
open_cost net costs c =
    if nat_lt c.arc (length net.tails) && list_has (points_in net (tail_in net c.arc)) c.depart then cost_of costs (class_number net c) else None

-- whether a class at a cost leaves where the shipment stands, not before it is ready, and costs no more than is left
abbrev pub can_take : Problem → Progress → Leg → ℕ → Bool
can_take p progress c cost = nat_eq (arc_at p c.arc).from progress.terminal && (nat_le progress.ready c.depart && nat_le cost progress.rest)

-- how far it comes by such a class
abbrev pub taken : Problem → TimedNetwork → Progress → Leg → ℕ → Progress
taken p net progress c cost = record { terminal = (arc_at p c.arc).to; ready = head_of p (points_in net) c; rest = progress.rest - cost }

-- how far it comes by one more class, where it can take it
abbrev pub after_class : Problem → TimedNetwork → List (Option ℕ) → Progress → Leg → Option Progress
after_class p net costs progress c =
    option_and_then (λ cost. if can_take p progress c cost then Some (taken p net progress c cost) else None) (open_cost net costs c)

-- a place as a timed node
abbrev pub node_of_place : Place → ℕ × ℕ
node_of_place place = (place.terminal, place.at)
