-- Which plans a search looks for, and with which it begins: all of an instance, or those that keep legs, or,
-- of what is left of a day, those that go on with it; each of them from a plan of its own or from one in hand.
use Rattle.std.specs.Prelude.{ℕ, ◌+◌, ◌≡◌, List, ⊤}
use Rattle.fp_model.specs.declared.parts.Leg.{Leg}
use Rattle.fp_model.specs.Costs.{cost}
use Rattle.fp_model.specs.Plans.{IsPlan, NoPlanCheaper, PlanExists}
use Rattle.fp_model.specs.Problem.{Problem}
use Rattle.fp_flatnet.specs.Directs.{IsDirectPlan}
use Rattle.fp_flatnet.specs.Tables.{WindowTable}
use Rattle.fp_replan.specs.declared.kept.Kept.{Kept}
use Rattle.fp_replan.specs.KeptLegs.{Keeps}
use Rattle.fp_replan.specs.KeptWindows.{CanBeKept}
use Rattle.fp_replan.specs.Starts.{GoOn}
use Rattle.fp_replan_present.specs.Days.{Day}
use Rattle.fp_replan_present.specs.Parts.{IsStart}
use Rattle.fp_replan_present.specs.Plans.{IsPlanUnderway, NoneUnderwayCheaper, UnderwayExists, cost_underway, sunk_cost}
use Rattle.fp_replan_present.specs.Rests.{joined, left_problem}
use Rattle.fp_app_tails.specs.Duties.{Duty, go_on, keep}
use Rattle.fp_app_tails.specs.Verdicts.{NoKeptPlanCheaper}
use Rattle.fp_app_tails.specs.Windows.{AreDayWindows, AreKeptWindowsOf}
use Rattle.fp_app.specs.Checks.{AreWindowsOf}

pub data Wanted : Type 0 where
  every : Wanted
  every_from : List (List Leg) → Wanted
  keeping : List Kept → Wanted
  keeping_from : List Kept → List (List Leg) → Wanted
  going_on : Problem → Day → Wanted
  going_on_from : Problem → Day → List (List Leg) → Wanted

-- the same plans, from one in hand
abbrev pub from_plan : Wanted → List (List Leg) → Wanted
from_plan every plan = every_from plan
from_plan (every_from other) plan = every_from plan
from_plan (keeping kept) plan = keeping_from kept plan
from_plan (keeping_from kept other) plan = keeping_from kept plan
from_plan (going_on p day) plan = going_on_from p day plan
from_plan (going_on_from p day other) plan = going_on_from p day plan

-- those that what is told of an instance asks for
abbrev pub wanted_by : Problem → Duty → Wanted
wanted_by p (keep kept) = keeping kept
wanted_by p (go_on day) = going_on p day

-- all plans of the instance are looked for
abbrev pub LooksForAll : Wanted → Type 0
LooksForAll (keeping kept) = ⊥
LooksForAll (keeping_from kept plan) = ⊥
LooksForAll (going_on p day) = ⊥
LooksForAll (going_on_from p day plan) = ⊥
LooksForAll _ = ⊤

-- the windows of the wanted plans
abbrev pub AreWindowsFor : Problem → Wanted → WindowTable → Type 0
AreWindowsFor p every table = AreWindowsOf p table
AreWindowsFor p (every_from plan) table = AreWindowsOf p table
AreWindowsFor p (keeping kept) table = AreKeptWindowsOf p kept table
AreWindowsFor p (keeping_from kept plan) table = AreKeptWindowsOf p kept table
AreWindowsFor q (going_on p day) table = AreDayWindows p day q table
AreWindowsFor q (going_on_from p day plan) table = AreDayWindows p day q table

-- the plan with which a search begins: the direct plan, the one in hand, the one that keeps the legs
-- and goes on from them by the fastest way, or that of what is left of a day
abbrev pub IsFirstPlan : Problem → Wanted → List (List Leg) → Type 0
IsFirstPlan p every routes = IsDirectPlan p routes
IsFirstPlan p (every_from plan) routes = routes ≡ plan
IsFirstPlan p (keeping kept) routes = IsPlan p 1 routes × Keeps kept 1 routes × GoOn p kept routes
IsFirstPlan p (keeping_from kept plan) routes = routes ≡ plan
IsFirstPlan q (going_on p day) routes = IsStart p day routes
IsFirstPlan q (going_on_from p day plan) routes = routes ≡ plan

-- a plan in whole units of what is left of a day makes a plan under way with the settled legs, which costs as much
-- more as these do
abbrev pub GoesOnWith : Problem → Day → List (List Leg) → Type 0
GoesOnWith p day routes = IsPlanUnderway p day 1 (joined p day 1 routes) × (cost_underway p day (joined p day 1 routes) ≡ sunk_cost p day + cost (left_problem p day) routes)

-- a plan in whole units is wanted
abbrev pub IsWanted : Wanted → List (List Leg) → Type 0
IsWanted every routes = ⊤
IsWanted (every_from plan) routes = ⊤
IsWanted (keeping kept) routes = Keeps kept 1 routes
IsWanted (keeping_from kept plan) routes = Keeps kept 1 routes
IsWanted (going_on p day) routes = GoesOnWith p day routes
IsWanted (going_on_from p day plan) routes = GoesOnWith p day routes

-- over every denominator, no wanted plan costs less than c; of a day, no plan under way costs less than that
-- and what its settled legs cost
abbrev pub NoneWantedCheaper : Problem → Wanted → ℕ → Type 0
NoneWantedCheaper p every c = NoPlanCheaper p c
NoneWantedCheaper p (every_from plan) c = NoPlanCheaper p c
NoneWantedCheaper p (keeping kept) c = NoKeptPlanCheaper p kept c
NoneWantedCheaper p (keeping_from kept plan) c = NoKeptPlanCheaper p kept c
NoneWantedCheaper q (going_on p day) c = NoneUnderwayCheaper p day (sunk_cost p day + c)
NoneWantedCheaper q (going_on_from p day plan) c = NoneUnderwayCheaper p day (sunk_cost p day + c)

-- some plan over some denominator is wanted
abbrev pub WantedExists : Problem → Wanted → Type 0
WantedExists p every = PlanExists p
WantedExists p (every_from plan) = PlanExists p
WantedExists p (keeping kept) = CanBeKept p kept
WantedExists p (keeping_from kept plan) = CanBeKept p kept
WantedExists q (going_on p day) = UnderwayExists p day
WantedExists q (going_on_from p day plan) = UnderwayExists p day
