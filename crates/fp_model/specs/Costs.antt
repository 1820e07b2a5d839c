-- Departures, their loads and trucks, and what they cost.
-- A departure is a leg: an arc and a number. The number may be a time, a time over some
-- denominator, or what stands for several times.
-- The source of the problem: Boland, Hewitt, Marshall and Savelsbergh, "The Continuous-Time Service
-- Network Design Problem", Operations Research 65, 2017.
use Rattle.std.specs.Prelude.{ℕ, ◌+◌, ◌*◌, List, [], ◌∷◌, ◌++◌, Bool, ◌==◌, ◌&&◌, sum_by, if◌then◌else◌}
use Rattle.std.specs.List.{list_any}
use Rattle.std.specs.Int.{div_ceil}
use Rattle.fp_model.specs.declared.parts.Shipment.{Shipment}
use Rattle.fp_model.specs.declared.parts.Leg.{Leg}
use Rattle.fp_model.specs.Problem.{Problem, arc_at}

-- whether two legs are the same departure
abbrev pub same_leg : Leg → Leg → Bool
same_leg k l = (k.arc == l.arc) && (k.depart == l.depart)

-- whether a leg is among the legs
abbrev pub has_leg : Leg → List Leg → Bool
has_leg k legs = list_any (same_leg k) legs

-- the distinct legs of a list
abbrev pub distinct : List Leg → List Leg
distinct [] = []
distinct (k ∷ legs) = if has_leg k legs then distinct legs else k ∷ distinct legs

-- all legs of all routes
abbrev pub all_legs : List (List Leg) → List Leg
all_legs [] = []
all_legs (legs ∷ routes) = legs ++ all_legs routes

-- the load of a departure: the sum of the sizes of the shipments that have the leg
abbrev pub load : List Shipment → List (List Leg) → Leg → ℕ
load (s ∷ shipments) (legs ∷ routes) k = (if has_leg k legs then s.size else 0) + load shipments routes k
load shipments routes k = 0

-- the trucks of a departure: as few as hold its load
abbrev pub trucks : Problem → List (List Leg) → Leg → ℕ
trucks p routes k = div_ceil (load p.shipments routes k) (arc_at p k.arc).capacity

-- what the trucks of a departure cost
abbrev pub departure_cost : Problem → List (List Leg) → Leg → ℕ
departure_cost p routes k = (arc_at p k.arc).truck * trucks p routes k

-- what the flow of a shipment of a size costs over legs
abbrev pub flow_cost : Problem → ℕ → List Leg → ℕ
flow_cost p size legs = sum_by (λ (k : Leg). (arc_at p k.arc).freight * size) legs

-- what the flow of all shipments costs
abbrev pub flow_total : Problem → List Shipment → List (List Leg) → ℕ
flow_total p (s ∷ shipments) (legs ∷ routes) = flow_cost p s.size legs + flow_total p shipments routes
flow_total p shipments routes = 0

-- what the trucks of the distinct departures among legs cost
abbrev pub departures_cost : Problem → List (List Leg) → List Leg → ℕ
departures_cost p routes legs = sum_by (departure_cost p routes) (distinct legs)

-- the cost: of the trucks of the distinct departures, and of the flow over all legs
abbrev pub cost : Problem → List (List Leg) → ℕ
cost p routes = departures_cost p routes (all_legs routes) + flow_total p p.shipments routes

-- what the departures of a route and of later legs and the route's flow cost
abbrev pub cost_with : Problem → List (List Leg) → ℕ → List Leg → List Leg → ℕ
cost_with p routes size legs later = departures_cost p routes (legs ++ later) + flow_cost p size legs
