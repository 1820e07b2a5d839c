-- The windows in which exactly those plans of what is left lie that make a plan under way.
use Rattle.std.specs.Prelude.{ℕ, ◌+◌, ◌<◌, ◌≤◌, ◌≡◌, ◌↔◌, List, length, cond, Option, None}
use Rattle.fp_base_lists.specs.Membership.{list_has}
use Rattle.fp_model.specs.declared.parts.Leg.{Leg}
use Rattle.fp_model.specs.Costs.{cost}
use Rattle.fp_model.specs.Plans.{IsPlan}
use Rattle.fp_model.specs.Problem.{Problem, arc_at}
use Rattle.fp_flatnet.specs.declared.window_tables.Window.{Window}
use Rattle.fp_flatnet.specs.Windows.{PlanLiesWithin}
use Rattle.fp_replan.specs.declared.kept.Kept.{Kept}
use Rattle.fp_replan.specs.KeptLegs.{Keeps}
use Rattle.fp_replan.specs.KeptWindows.{AreKeptWindows}
use Rattle.fp_replan_present.specs.Days.{Day}
use Rattle.fp_replan_present.specs.Plans.{IsPlanUnderway, NoneUnderwayCheaper, cost_underway, sunk_cost}
use Rattle.fp_replan_present.specs.Rests.{StayAway, gone_at, joined, left_problem}

-- windows of kept legs, but that no arc that enters a terminal where a shipment was has one
pub record AreRestWindows (p : Problem) (kept : List Kept) (gone : List (List ℕ)) (windows : ℕ → ℕ → Option Window) : Type 0 where
  pub base : ℕ → ℕ → Option Window
  pub kept_windows : AreKeptWindows p kept base
  pub shut : (k a : ℕ) → k < length p.shipments → a < length p.arcs → windows k a ≡ cond (list_has (gone_at gone k) (arc_at p a).to) None (base k a)

-- every plan, over whatever denominator, lies within the windows exactly where it keeps the legs and
-- enters no terminal where a shipment was
abbrev pub TellRest : Problem → List Kept → (gone : List (List ℕ)) → (ℕ → ℕ → Option Window) → Type 0
TellRest p kept gone windows =
    (d : ℕ) (routes : List (List Leg)) → 1 ≤ d → IsPlan p d routes → (PlanLiesWithin windows d routes ↔ (Keeps kept d routes × StayAway p gone routes))

-- over the denominator d, routes are the whole routes of a plan of what is left that lies within the
-- windows, and cost as much more as the settled legs do
pub record HasRests (p : Problem) (day : Day) (windows : ℕ → ℕ → Option Window) (d : ℕ) (routes : List (List Leg)) : Type 0 where
  pub rests : List (List Leg)
  pub same : routes ≡ joined p day d rests
  pub plan : IsPlan (left_problem p day) d rests
  pub within : PlanLiesWithin windows d rests
  pub costs : cost_underway p day routes ≡ sunk_cost p day + cost (left_problem p day) rests

-- over whatever denominator, routes are a plan under way exactly where they are the whole routes of
-- a plan of what is left that lies within the windows
abbrev pub TellUnderway : Problem → Day → (ℕ → ℕ → Option Window) → Type 0
TellUnderway p day windows = (d : ℕ) (routes : List (List Leg)) → 1 ≤ d → (IsPlanUnderway p day d routes ↔ HasRests p day windows d routes)

-- no plan within the windows, over any denominator, costs less than c
abbrev pub NoneWithinCheaper : Problem → (ℕ → ℕ → Option Window) → ℕ → Type 0
NoneWithinCheaper p windows c = (d : ℕ) (routes : List (List Leg)) → 1 ≤ d → IsPlan p d routes → PlanLiesWithin windows d routes → c ≤ cost p routes

-- no plan under way is cheaper than what the settled legs cost and c, exactly where no plan of what
-- is left within the windows is cheaper than c
abbrev pub TellCheaper : Problem → Day → (ℕ → ℕ → Option Window) → Type 0
TellCheaper p day windows =
    (c : ℕ) → (NoneUnderwayCheaper p day (sunk_cost p day + c) ↔ NoneWithinCheaper (left_problem p day) windows c)
