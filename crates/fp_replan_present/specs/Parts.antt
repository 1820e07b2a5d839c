-- What is left of the shipments with the numbers below a bound, part by part.
use Rattle.std.specs.Prelude.{ℕ, ◌<◌, ◌≤◌, ◌≡◌, List, length, map, AllPairs}
use Rattle.std.specs.List.{AllByRecursion, AllZip}
use Rattle.fp_base_lists.specs.Vectors.{lists_of}
use Rattle.fp_model.specs.declared.limits.TheConstants.{MOST_SHIPMENTS}
use Rattle.fp_model.specs.declared.parts.Leg.{Leg}
use Rattle.fp_model.specs.Plans.{IsPlan}
use Rattle.fp_model.specs.Problem.{IsShipment, Problem}
use Rattle.fp_replan.specs.declared.kept.TheConstants.{MOST_KEPT}
use Rattle.fp_replan.specs.KeptLegs.{AreKept, Keeps}
use Rattle.fp_replan.specs.KeptWindows.{CanBeKept}
use Rattle.fp_replan_present.specs.declared.parts.Parts.{Parts}
use Rattle.fp_replan_present.specs.declared.parts.Found.{Found}
use Rattle.fp_replan_present.specs.declared.parts.Found.TheVariants as found
use Rattle.fp_replan_present.specs.declared.rests.Left.{Left}
use Rattle.fp_replan_present.specs.declared.rests.Left.TheVariants as left
use Rattle.fp_replan_present.specs.declared.rests.Rest.{Rest}
use Rattle.fp_replan_present.specs.Days.{Day}
use Rattle.fp_replan_present.specs.Plans.{HasLegsUnderway, IsStuckUnderway, UnderwayExists, gone_of, listed, settled_legs}
use Rattle.fp_replan_present.specs.Rests.{IsOpen, IsRest, IsSettled, StayAway, is_left, left_gone, left_kept, left_numbers, left_problem, moved, passing}
use Rattle.fp_replan_present.specs.Standings.{IsWayOn}

-- the parts of the shipments with the numbers below a bound
pub record AreParts (p : Problem) (day : Day) (n : ℕ) (parts : Parts) : Type 0 where
  pub numbers : parts.numbers.items ≡ passing (is_left p day) n
  pub shipments : parts.shipments.items ≡ map (moved p day) (passing (is_left p day) n)
  pub gone : lists_of parts.gone.items ≡ map (gone_of p day) (passing (is_left p day) n)
  pub settled : lists_of parts.settled.items ≡ listed (settled_legs day) n
  pub routes : AllZip (IsWayOn p day) (passing (is_left p day) n) (lists_of parts.routes.items)
  pub within : AllByRecursion (λ k. IsShipment (length p.terminals) (moved p day k)) (passing (is_left p day) n)
  pub are : (k : ℕ) → k < n → IsSettled p day k
  pub under : (k : ℕ) → k < n → HasLegsUnderway p day k

-- the parts of all shipments, or the first that is stuck
abbrev pub IsFound : Problem → Day → Found → Type 0
IsFound p day (found.All parts) = AreParts p day (length p.shipments) parts
IsFound p day (found.Stuck k) = IsStuckUnderway p day k × (UnderwayExists p day → ⊥)

-- what plans of what is left need: its kept legs can be kept, are few, and some plan keeps them; it has
-- terminals and a number for each of its shipments, which ascend; and no more settled lists than there
-- may be shipments
pub record CanGoOn (rest : Rest) : Type 0 where
  pub kept : AreKept rest.instance rest.kept.items
  pub few : length rest.kept.items ≤ MOST_KEPT
  pub can : CanBeKept rest.instance rest.kept.items
  pub gone : length rest.gone.items ≡ length rest.instance.shipments
  pub numbers : length rest.numbers.items ≡ length rest.instance.shipments
  pub few_numbers : length rest.numbers.items ≤ MOST_SHIPMENTS
  pub ascend : AllPairs (λ a b. a < b) rest.numbers.items
  pub few_settled : length rest.settled ≤ MOST_SHIPMENTS

-- a plan of what is left that keeps its legs and enters no terminal where a shipment was; each shipment
-- goes on from its promised legs by the arcs of least number that begin walks of least time past
-- those terminals, as early as it can
pub record IsStart (p : Problem) (day : Day) (routes : List (List Leg)) : Type 0 where
  pub plan : IsPlan (left_problem p day) 1 routes
  pub keeps : Keeps (left_kept p day) 1 routes
  pub away : StayAway (left_problem p day) (left_gone p day) routes
  pub go_on : AllZip (IsWayOn p day) (left_numbers p day) routes

-- what is left of a day, and a plan of it; or the first shipment that is stuck, and no plan is under way
abbrev pub IsLeft : Problem → Day → Left → Type 0
IsLeft p day (left.Open rest start) = IsOpen p day × IsRest p day rest × CanGoOn rest × IsStart p day start
IsLeft p day (left.Stuck k) = IsStuckUnderway p day k × (UnderwayExists p day → ⊥)
