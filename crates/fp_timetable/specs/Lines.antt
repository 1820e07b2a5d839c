-- What the lines of a timetable are.
use Rattle.std.specs.Prelude.{ℕ, ◌+◌, ◌*◌, ◌<◌, ◌≡◌, List, [], ◌∷◌, nat_eq, if◌then◌else◌, length, map, IsTrue, All, AllPairs, Contains}
use Rattle.fp_base_lists.specs.Order.{Precedes}
use Rattle.fp_model.specs.declared.parts.Leg.{Leg}
use Rattle.fp_model.specs.declared.parts.Shipment.{Shipment}
use Rattle.fp_model.specs.Costs.{all_legs, has_leg, load, trucks}
use Rattle.fp_model.specs.Numbered.{leg_at, route_at}
use Rattle.fp_model.specs.Problem.{Problem, arc_at}
use Rattle.fp_timetable.specs.declared.lines.LegLine.{LegLine}
use Rattle.fp_timetable.specs.declared.lines.TruckLine.{TruckLine}

-- the line of a leg of the shipment with a number, which arrives a travel time after it left
abbrev pub leg_line : Problem → ℕ → Leg → LegLine
leg_line p k leg = record { shipment = k; arc = leg.arc; depart = leg.depart; arrive = leg.depart + (arc_at p leg.arc).time }

-- the leg of a line
abbrev pub line_leg : LegLine → Leg
line_leg l = record { arc = l.arc; depart = l.depart }

-- a line is that of a leg of its shipment
pub record IsLegLine (p : Problem) (routes : List (List Leg)) (l : LegLine) : Type 0 where
  pub shipment : l.shipment < length routes
  pub leg : IsTrue (has_leg (line_leg l) (route_at routes l.shipment))
  pub arrive : l.arrive ≡ l.depart + (arc_at p l.arc).time

-- lines are the legs of routes, each leg once, by departure and then by shipment
pub record AreLegLines (p : Problem) (routes : List (List Leg)) (lines : List LegLine) : Type 0 where
  pub ascending : AllPairs (λ (k l : LegLine). Precedes k.depart k.shipment l.depart l.shipment) lines
  pub legs : All (IsLegLine p routes) lines
  pub every : (k i : ℕ) → k < length routes → i < length (route_at routes k) → Contains lines (leg_line p k (leg_at (route_at routes k) i))

-- the legs of the shipment with a number, in the order of their lines
abbrev pub route_of : List LegLine → ℕ → List Leg
route_of [] k = []
route_of (l ∷ lines) k = if nat_eq l.shipment k then line_leg l ∷ route_of lines k else route_of lines k

-- the same for each of some shipments that are numbered from i on
abbrev pub routes_from : List LegLine → ℕ → List Shipment → List (List Leg)
routes_from lines i [] = []
routes_from lines i (s ∷ shipments) = route_of lines i ∷ routes_from lines (i + 1) shipments

-- the departure of a truck line
abbrev pub departure : TruckLine → Leg
departure t = record { arc = t.arc; depart = t.depart }

-- lines are the distinct departures of routes with their trucks and loads, each departure once, by
-- departure and then by arc
pub record AreTruckLines (p : Problem) (routes : List (List Leg)) (lines : List TruckLine) : Type 0 where
  pub ascending : AllPairs (λ (t u : TruckLine). Precedes t.depart t.arc u.depart u.arc) lines
  pub departures : (k : Leg) → has_leg k (map departure lines) ≡ has_leg k (all_legs routes)
  pub trucks : All (λ (t : TruckLine). t.trucks ≡ trucks p routes (departure t)) lines
  pub loads : All (λ (t : TruckLine). t.load ≡ load p.shipments routes (departure t)) lines

-- what the trucks of a truck line cost
abbrev pub line_cost : Problem → TruckLine → ℕ
line_cost p t = (arc_at p t.arc).truck * t.trucks

-- the shipment and the arc of a leg line exist
abbrev pub LegExists : Problem → LegLine → Type 0
LegExists p line = (line.shipment < length p.shipments) × (line.arc < length p.arcs)

-- the arc of a truck line exists
abbrev pub TruckExists : Problem → TruckLine → Type 0
TruckExists p line = line.arc < length p.arcs
