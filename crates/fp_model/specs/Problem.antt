-- What a planner is given, when it is valid, and how heavy it is.
-- The source of the problem: Boland, Hewitt, Marshall and Savelsbergh, "The Continuous-Time Service
-- Network Design Problem", Operations Research 65, 2017. Holds, scales and limits are this
-- project's own.
use Rattle.std.specs.Prelude.{ℕ, ◌+◌, ◌*◌, ◌^◌, ◌<◌, ◌≤◌, ◌≡◌, ◌≢◌, List, length, All, AllPairs, sum_by, slice_index_or, max, [], ◌∷◌}
use Rattle.std.specs.Int.{div_ceil}
use Rattle.fp_model.specs.declared.limits.TheConstants.{GREATEST_AMOUNT, GREATEST_HOLD, GREATEST_SCALE, LATEST, MOST_ARCS, MOST_SHIPMENTS, MOST_TERMINALS, MOST_TIMED_NODES, SCALE}
use Rattle.fp_model.specs.declared.parts.Arc.{Arc}
use Rattle.fp_model.specs.declared.parts.Shipment.{Shipment}
use Rattle.fp_model.specs.Names.{IsName}

-- what is given: the terminals by their names, their holds, the arcs, the shipments, and the scale
-- of prices
pub record Problem : Type 0 where
  pub terminals : List (List ℕ)
  pub holds : List ℕ
  pub arcs : List Arc
  pub shipments : List Shipment
  pub scale : ℕ

-- stands for the arc of a number that no arc has
abbrev pub no_arc : Arc
no_arc = record { from = 0; to = 0; time = 0; capacity = 0; truck = 0; freight = 0 }

-- the arc with a number
abbrev pub arc_at : Problem → ℕ → Arc
arc_at p a = slice_index_or p.arcs a no_arc

-- how long a shipment is held at a terminal that it passes through
abbrev pub hold_at : Problem → ℕ → ℕ
hold_at p terminal = slice_index_or p.holds terminal 0

-- what the trucks cost that so much needs for itself on an arc
abbrev pub truck_cost : Arc → ℕ → ℕ
truck_cost arc size = arc.truck * div_ceil size arc.capacity

-- what a shipment of a size costs that goes over an arc alone: its flow and its trucks
abbrev pub alone_cost : ℕ → Arc → ℕ
alone_cost size arc = arc.freight * size + truck_cost arc size

-- the sum, over every shipment and every arc, of what the shipment costs that goes over the arc
-- alone
abbrev pub alone_total : List Arc → List Shipment → ℕ
alone_total arcs shipments = sum_by (λ (s : Shipment). sum_by (alone_cost s.size) arcs) shipments

-- the weight at a scale, which bounds every sum of prices
abbrev pub weight_at : ℕ → List Arc → List Shipment → ℕ
weight_at scale arcs shipments = scale * MOST_TIMED_NODES * alone_total arcs shipments

-- the weight of an instance, whatever its scale: the weight at 1,000,000
abbrev pub weight : List Arc → List Shipment → ℕ
weight arcs shipments = weight_at SCALE arcs shipments

-- an arc's time, capacity and costs are within the limits
pub record IsArcWithin (a : Arc) : Type 0 where
  pub time : (1 ≤ a.time) × (a.time ≤ LATEST)
  pub capacity : (1 ≤ a.capacity) × (a.capacity ≤ GREATEST_AMOUNT)
  pub truck : a.truck ≤ GREATEST_AMOUNT
  pub freight : a.freight ≤ GREATEST_AMOUNT

-- an arc within the limits, between two of so many terminals
pub record IsArc (terminals : ℕ) (a : Arc) : Type 0 where
  pub within : IsArcWithin a
  pub from : a.from < terminals
  pub to : a.to < terminals
  pub ends : a.from ≢ a.to

-- a shipment's size and due time are within the limits
pub record IsShipmentWithin (s : Shipment) : Type 0 where
  pub size : (1 ≤ s.size) × (s.size ≤ GREATEST_AMOUNT)
  pub due : s.due ≤ LATEST

-- a shipment within the limits, between two of so many terminals, released no later than it is due
pub record IsShipment (terminals : ℕ) (s : Shipment) : Type 0 where
  pub within : IsShipmentWithin s
  pub from : s.from < terminals
  pub to : s.to < terminals
  pub ends : s.from ≢ s.to
  pub window : s.release ≤ s.due

-- two arcs differ in their ordered ends
abbrev pub EndsDiffer : Arc → Arc → Type 0
EndsDiffer a b = a.from ≡ b.from → a.to ≢ b.to

-- the parts are sound in themselves: every limit on them holds, there is one hold per terminal, and
-- names and ordered ends differ
pub record HasSoundParts (p : Problem) : Type 0 where
  pub few_terminals : length p.terminals ≤ MOST_TERMINALS
  pub few_arcs : length p.arcs ≤ MOST_ARCS
  pub few_shipments : length p.shipments ≤ MOST_SHIPMENTS
  pub names : All IsName p.terminals
  pub arcs : All (IsArc (length p.terminals)) p.arcs
  pub shipments : All (IsShipment (length p.terminals)) p.shipments
  pub terminals_differ : AllPairs (λ m n. m ≢ n) p.terminals
  pub arcs_differ : AllPairs EndsDiffer p.arcs
  pub shipments_differ : AllPairs (λ (s t : Shipment). s.name ≢ t.name) p.shipments
  pub one_each : length p.holds ≡ length p.terminals
  pub holds : All (λ h. h ≤ GREATEST_HOLD) p.holds

-- the parts are sound, and the weight and the scale are within their limits
pub record IsValid (p : Problem) : Type 0 where
  pub parts : HasSoundParts p
  pub weight : weight p.arcs p.shipments < 2 ^ 127
  pub scale : (1 ≤ p.scale) × (p.scale ≤ GREATEST_SCALE)
  pub fits : weight_at p.scale p.arcs p.shipments < 2 ^ 127

-- the greatest due time, 0 without shipments
abbrev pub horizon : List Shipment → ℕ
horizon [] = 0
horizon (s ∷ shipments) = max s.due (horizon shipments)
