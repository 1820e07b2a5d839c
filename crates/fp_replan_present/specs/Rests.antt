-- What is left of a day that is under way, as an instance of its own: the shipments that aren't
-- delivered, from where they are and when they can go on, and the promised legs.
use Rattle.std.specs.Prelude.{ℕ, zero, suc, ◌<◌, ◌≡◌, List, [], ◌∷◌, ◌++◌, length, map, Bool, false, ◌==◌, ◌&&◌, not, if◌then◌else◌, slice_index_or, Option}
use Rattle.std.specs.List.{list_any}
use Rattle.fp_base_lists.specs.Ascending.{place_in}
use Rattle.fp_base_lists.specs.Numbered.{AllFrom}
use Rattle.fp_base_lists.specs.Vectors.{lists_of}
use Rattle.fp_model.specs.declared.parts.Leg.{Leg}
use Rattle.fp_model.specs.declared.parts.Shipment.{Shipment}
use Rattle.fp_model.specs.Numbered.{route_at, shipment_at}
use Rattle.fp_model.specs.Problem.{Problem}
use Rattle.fp_model.specs.Routes.{arcs_of}
use Rattle.fp_replan.specs.declared.kept.Kept.{Kept}
use Rattle.fp_replan.specs.KeptLegs.{scaled}
use Rattle.fp_replan.specs.Starts.{Avoids}
use Rattle.fp_replan_present.specs.declared.presents.Tracked.{Tracked}
use Rattle.fp_replan_present.specs.declared.rests.Rest.{Rest}
use Rattle.fp_replan_present.specs.Days.{AreInOrder, AreTracked, Day, HasArrivedBy, is_fixed, is_of}
use Rattle.fp_replan_present.specs.Plans.{gone_of, listed, place_of, ready_of, settled_legs, settled_lists, settled_of, sunk_cost}

-- whether a shipment isn't delivered: it isn't at its destination
abbrev pub is_left : Problem → Day → ℕ → Bool
is_left p day k = not (place_of p day k == (shipment_at p k).to)

-- the numbers below a bound that pass a test, in order
abbrev pub passing : (ℕ → Bool) → ℕ → List ℕ
passing test zero = []
passing test (suc n) = passing test n ++ (if test n then n ∷ [] else [])

-- the numbers of the shipments that aren't delivered
abbrev pub left_numbers : Problem → Day → List ℕ
left_numbers p day = passing (is_left p day) (length p.shipments)

-- what is left of a shipment: from where it is, released when it can go on
abbrev pub moved : Problem → Day → ℕ → Shipment
moved p day k = record (shipment_at p k) { from = place_of p day k; release = ready_of p day k }

-- the instance of what is left
abbrev pub left_problem : Problem → Day → Problem
left_problem p day = record p { shipments = map (moved p day) (left_numbers p day) }

-- whether a leg is one of the shipment with a number, and settled by itself
abbrev pub is_fixed_of : (now : Option ℕ) → ℕ → Tracked → Bool
is_fixed_of now k x = is_of k x && is_fixed now x

-- the promised legs of all shipments, in their order: those after which, and with which, no leg of
-- their shipment is settled by itself
abbrev pub promised_among : (now : Option ℕ) → List Tracked → List Tracked
promised_among now [] = []
promised_among now (x ∷ legs) = if list_any (is_fixed_of now x.kept.shipment) (x ∷ legs) then promised_among now legs else x ∷ promised_among now legs

-- a tracked leg as a kept leg of what is left, where shipments have the numbers of their places
-- among those that aren't delivered
abbrev pub renumbered : List ℕ → Tracked → Kept
renumbered numbers x = record { shipment = place_in numbers x.kept.shipment; arc = x.kept.arc; depart = x.kept.depart }

-- the kept legs of what is left
abbrev pub left_kept : Problem → Day → List Kept
left_kept p day = map (renumbered (left_numbers p day)) (promised_among day.time day.legs)

-- for each shipment that isn't delivered the terminals where it was or is
abbrev pub left_gone : Problem → Day → List (List ℕ)
left_gone p day = map (gone_of p day) (left_numbers p day)

-- the settled legs of a shipment are in order, and where it is delivered it was in time
pub record IsSettled (p : Problem) (day : Day) (k : ℕ) : Type 0 where
  pub order : AreInOrder p (shipment_at p k).release (settled_of day k)
  pub there : is_left p day k ≡ false → HasArrivedBy p (shipment_at p k).due (settled_of day k)

-- the tracked legs are such, and settled so at each shipment
pub record IsOpen (p : Problem) (day : Day) : Type 0 where
  pub tracked : AreTracked p day
  pub settled : (k : ℕ) → k < length p.shipments → IsSettled p day k

-- a rest is what is left of a day: the instance, its kept legs, the numbers that its shipments have
-- in the instance of the day, the settled legs and what they cost, and where its shipments were
pub record IsRest (p : Problem) (day : Day) (rest : Rest) : Type 0 where
  pub instance : rest.instance ≡ left_problem p day
  pub kept : rest.kept.items ≡ left_kept p day
  pub numbers : rest.numbers.items ≡ left_numbers p day
  pub settled : rest.settled ≡ settled_lists p day
  pub sunk : rest.sunk ≡ sunk_cost p day
  pub gone : lists_of rest.gone.items ≡ left_gone p day

-- the terminals where the shipment with a number was
abbrev pub gone_at : List (List ℕ) → ℕ → List ℕ
gone_at gone k = slice_index_or gone k []

-- each shipment's route enters none of the terminals where the shipment was
abbrev pub StayAway : Problem → (gone : List (List ℕ)) → List (List Leg) → Type 0
StayAway p gone routes = AllFrom (λ k legs. Avoids p (gone_at gone k) (arcs_of legs)) 0 routes

-- what is left of the route of a shipment, for routes of what is left
abbrev pub rest_of : Problem → Day → List (List Leg) → ℕ → List Leg
rest_of p day rests k = if is_left p day k then route_at rests (place_in (left_numbers p day) k) else []

-- its whole route over the denominator d: its settled legs, and that
abbrev pub whole_of : Problem → Day → ℕ → List (List Leg) → ℕ → List Leg
whole_of p day d rests k = map (scaled d) (settled_legs day k) ++ rest_of p day rests k

-- the whole routes over the denominator d, for routes of what is left
abbrev pub joined : Problem → Day → ℕ → List (List Leg) → List (List Leg)
joined p day d rests = listed (whole_of p day d rests) (length p.shipments)
