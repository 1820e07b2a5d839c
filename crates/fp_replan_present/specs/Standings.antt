-- Where a shipment stands: stuck, delivered, or going on by a route.
use Rattle.std.specs.Prelude.{ℕ, ◌≡◌, List, ◌++◌, length, true, false, Option, Some, None}
use Rattle.fp_model.specs.declared.parts.Leg.{Leg}
use Rattle.fp_model.specs.Problem.{IsShipment, Problem}
use Rattle.fp_model.specs.Routes.{Carries, arcs_of}
use Rattle.fp_replan.specs.KeptLegs.{places_seen}
use Rattle.fp_replan.specs.Starts.{Avoids, GoesOnPast}
use Rattle.fp_replan_present.specs.declared.standings.Going.{Going}
use Rattle.fp_replan_present.specs.declared.standings.Standing.{Standing}
use Rattle.fp_replan_present.specs.declared.standings.Standing.TheVariants as standing
use Rattle.fp_replan_present.specs.declared.tracked_legs.Own.{Own}
use Rattle.fp_replan_present.specs.Days.{Day, legs_of}
use Rattle.fp_replan_present.specs.Plans.{HasLegsUnderway, gone_of, promised_of, settled_legs, settled_of}
use Rattle.fp_replan_present.specs.Rests.{IsSettled, is_left, moved}

-- the tracked legs of the shipment with a number, in their parts
pub record IsOwn (day : Day) (k : ℕ) (own : Own) : Type 0 where
  pub settled : own.settled.items ≡ settled_of day k
  pub legs : own.legs.items ≡ settled_legs day k
  pub promised : own.promised.items ≡ legs_of (promised_of day k)

-- a route of what is left of a shipment: it carries it, goes on from the promised legs past the
-- terminals where the shipment was and those of the legs, and enters none where it was
pub record IsWayOn (p : Problem) (day : Day) (k : ℕ) (legs : List Leg) : Type 0 where
  pub carries : Carries p 1 (moved p day k) legs
  pub goes : GoesOnPast p (gone_of p day k ++ places_seen p (moved p day k).from (legs_of (promised_of day k))) (moved p day k) (legs_of (promised_of day k)) legs
  pub avoids : Avoids p (gone_of p day k) (arcs_of legs)

-- what goes on: what is left of the shipment, the terminals where it was or is, and its route
pub record IsGoing (p : Problem) (day : Day) (k : ℕ) (going : Going) : Type 0 where
  pub shipment : going.shipment ≡ moved p day k
  pub within : IsShipment (length p.terminals) (moved p day k)
  pub gone : going.gone.items ≡ gone_of p day k
  pub route : IsWayOn p day k going.route.items

-- a shipment is delivered, or goes on
abbrev pub IsWay : Problem → Day → ℕ → Option Going → Type 0
IsWay p day k None = is_left p day k ≡ false
IsWay p day k (Some going) = (is_left p day k ≡ true) × IsGoing p day k going

-- a shipment is stuck that has no legs under way; else it is settled, and delivered or goes on
abbrev pub IsStanding : Problem → Day → ℕ → Standing → Type 0
IsStanding p day k standing.Stuck = HasLegsUnderway p day k → ⊥
IsStanding p day k (standing.Settled going) = IsSettled p day k × IsWay p day k going
