-- Plans of a day that is under way, over any denominator, and what they cost. A plan over the
-- denominator d leaves at `depart / d`.
use Rattle.std.specs.Prelude.{ℕ, zero, suc, ◌+◌, ◌*◌, ◌<◌, ◌≤◌, ◌≡◌, List, [], ◌∷◌, ◌++◌, length, map, drop}
use Rattle.fp_model.specs.declared.parts.Leg.{Leg}
use Rattle.fp_model.specs.Costs.{cost}
use Rattle.fp_model.specs.Numbered.{route_at, shipment_at}
use Rattle.fp_model.specs.Problem.{Problem}
use Rattle.fp_model.specs.Routes.{ArrivesBy, IsRoute, LeavesReady, arcs_of}
use Rattle.fp_replan.specs.KeptLegs.{BeginWith, place_after, places_seen, scaled}
use Rattle.fp_replan_present.specs.declared.presents.Tracked.{Tracked}
use Rattle.fp_replan_present.specs.Days.{AreInOrder, Day, HasArrivedBy, from_now, legs_of, promised, settled, settled_ready, tracked_of}

-- the settled legs of the shipment with a number, and its promised ones
abbrev pub settled_of : Day → ℕ → List Tracked
settled_of day k = settled day.time (tracked_of day.legs k)

abbrev pub promised_of : Day → ℕ → List Tracked
promised_of day k = promised day.time (tracked_of day.legs k)

-- the settled legs of a shipment as legs
abbrev pub settled_legs : Day → ℕ → List Leg
settled_legs day k = legs_of (settled_of day k)

-- where a shipment is: at the end of its last settled leg, or at its origin where none is settled
abbrev pub place_of : Problem → Day → ℕ → ℕ
place_of p day k = place_after p (shipment_at p k).from (settled_legs day k)

-- the terminals where a shipment was or is
abbrev pub gone_of : Problem → Day → ℕ → List ℕ
gone_of p day k = places_seen p (shipment_at p k).from (settled_legs day k)

-- when a shipment can go on: after the hold at the end of its last settled leg, or from its release
-- where none is settled, and not before the present
abbrev pub ready_of : Problem → Day → ℕ → ℕ
ready_of p day k = from_now day.time (settled_ready p (shipment_at p k).release (settled_of day k))

-- over the denominator d, legs of a shipment that is under way: its settled legs, which are in
-- order, and a rest. They are a route; the rest begins with the promised legs, leaves no sooner than
-- the shipment can go on, and is there by the due time, as the settled legs are where there is no rest
pub record GoesUnderway (p : Problem) (day : Day) (d k : ℕ) (legs : List Leg) : Type 0 where
  pub rest : List Leg
  pub begins : legs ≡ map (scaled d) (settled_legs day k) ++ rest
  pub route : IsRoute p (shipment_at p k) (arcs_of legs)
  pub order : AreInOrder p (shipment_at p k).release (settled_of day k)
  pub keeps : BeginWith d (legs_of (promised_of day k)) rest
  pub ready : LeavesReady p d (d * ready_of p day k) rest
  pub due : ArrivesBy p d (shipment_at p k).due rest
  pub there : rest ≡ [] → HasArrivedBy p (shipment_at p k).due (settled_of day k)

-- a plan under way over the denominator d: each shipment has such legs
pub record IsPlanUnderway (p : Problem) (day : Day) (d : ℕ) (routes : List (List Leg)) : Type 0 where
  pub one_each : length routes ≡ length p.shipments
  pub each : (k : ℕ) → k < length p.shipments → GoesUnderway p day d k (route_at routes k)

-- what a function makes of the numbers below a bound, in their order
abbrev pub listed : {X : Type 0} → (ℕ → X) → ℕ → List X
listed f zero = []
listed f (suc n) = listed f n ++ (f n ∷ [])

-- the settled legs of each shipment
abbrev pub settled_lists : Problem → Day → List (List Leg)
settled_lists p day = listed (settled_legs day) (length p.shipments)

-- what the settled legs cost: the trucks of their departures, by the load of those alone, and their flow
abbrev pub sunk_cost : Problem → Day → ℕ
sunk_cost p day = cost p (settled_lists p day)

-- what the routes of a plan have after the settled legs
abbrev pub rests_in : Problem → Day → List (List Leg) → List (List Leg)
rests_in p day routes = listed (λ k. drop (length (settled_legs day k)) (route_at routes k)) (length p.shipments)

-- what a plan under way costs: what has left is loaded and closed, so the settled legs cost by
-- themselves, and the rests as plans do
abbrev pub cost_underway : Problem → Day → List (List Leg) → ℕ
cost_underway p day routes = sunk_cost p day + cost p (rests_in p day routes)

-- no plan under way over any denominator costs less than c
abbrev pub NoneUnderwayCheaper : Problem → Day → ℕ → Type 0
NoneUnderwayCheaper p day c = (d : ℕ) (routes : List (List Leg)) → 1 ≤ d → IsPlanUnderway p day d routes → c ≤ cost_underway p day routes

-- over some denominator, a shipment has legs under way
abbrev pub HasLegsUnderway : Problem → Day → ℕ → Type 0
HasLegsUnderway p day k = (d : ℕ) × (legs : List Leg) × (1 ≤ d) × GoesUnderway p day d k legs

-- there is a plan under way over some denominator
abbrev pub UnderwayExists : Problem → Day → Type 0
UnderwayExists p day = (d : ℕ) × (routes : List (List Leg)) × (1 ≤ d) × IsPlanUnderway p day d routes

-- the first shipment that has no legs under way, over any denominator
pub record IsStuckUnderway (p : Problem) (day : Day) (k : ℕ) : Type 0 where
  pub exists : k < length p.shipments
  pub earlier : (i : ℕ) → i < k → HasLegsUnderway p day i
  pub none : HasLegsUnderway p day k → ⊥
