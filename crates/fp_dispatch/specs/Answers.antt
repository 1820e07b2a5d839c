-- What a dispatch says of routes and groups.
use Rattle.std.specs.Prelude.{ℕ, ◌≡◌, List, Option}
use Rattle.fp_model.specs.declared.parts.Leg.{Leg}
use Rattle.fp_model.specs.declared.parts.Member.{Member}
use Rattle.fp_model.specs.Members.{arc_lists}
use Rattle.fp_model.specs.Plans.{IsPlan}
use Rattle.fp_model.specs.Problem.{Problem}
use Rattle.fp_flatnet.specs.declared.window_tables.Window.{Window}
use Rattle.fp_flatnet.specs.Windows.{PlanLiesWithin}
use Rattle.fp_dispatch.specs.declared.dispatches.Dispatch.{Dispatch}
use Rattle.fp_dispatch.specs.declared.dispatches.Dispatch.TheVariants as dispatch
use Rattle.fp_dispatch.specs.Times.{AreLeastTimes, departure}

-- legs go by the routes at the least whole times, within the windows: they are a plan
pub record IsEarliest (p : Problem) (windows : ℕ → ℕ → Option Window) (routes : List (List ℕ)) (groups : List (List Member)) (legs : List (List Leg)) : Type 0 where
  pub arcs : arc_lists legs ≡ routes
  pub least : AreLeastTimes p windows routes groups (departure legs)
  pub plan : IsPlan p 1 legs
  pub within : PlanLiesWithin windows 1 legs

-- the dispatch has times
abbrev pub HasPlan : Dispatch → Type 0
HasPlan (dispatch.Times plan) = Unit {0}
HasPlan (dispatch.Clash shipment leg value latest) = ⊥

-- P of the plan, where there is one
abbrev pub IfTimes : Dispatch → (List (List Leg) → Type 0) → Type 0
IfTimes (dispatch.Times plan) P = P plan
IfTimes (dispatch.Clash shipment leg value latest) P = Unit {0}

-- P of the leg, the value and the latest moment of a clash, where there is one
abbrev pub IfClash : Dispatch → (Member → ℕ → Option ℕ → Type 0) → Type 0
IfClash (dispatch.Times plan) P = Unit {0}
IfClash (dispatch.Clash shipment leg value latest) P = P (record { shipment = shipment; leg = leg }) value latest
