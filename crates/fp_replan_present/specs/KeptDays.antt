-- Days of which kept legs alone are told.
use Rattle.std.specs.Prelude.{ℕ, ◌≡◌, ◌↔◌, List, length, map, None}
use Rattle.fp_model.specs.declared.parts.Leg.{Leg}
use Rattle.fp_model.specs.Costs.{cost}
use Rattle.fp_model.specs.Plans.{IsPlan}
use Rattle.fp_model.specs.Problem.{Problem}
use Rattle.fp_replan.specs.declared.kept.Kept.{Kept}
use Rattle.fp_replan.specs.KeptLegs.{Keeps}
use Rattle.fp_replan_present.specs.Days.{Day}
use Rattle.fp_replan_present.specs.Plans.{IsPlanUnderway, cost_underway}
use Rattle.fp_replan_present.specs.Records.{only_kept}

-- the day of which these are told
abbrev pub kept_day : List Kept → Day
kept_day kept = record { time = None; legs = map only_kept kept }

-- its plans under way are the plans that keep the legs
abbrev pub UnderwayAsKept : Type 0
UnderwayAsKept = (p : Problem) (kept : List Kept) (d : ℕ) (routes : List (List Leg)) → (IsPlanUnderway p (kept_day kept) d routes ↔ (IsPlan p d routes × Keeps kept d routes))

-- and cost what these do
abbrev pub CostAsKept : Type 0
CostAsKept = (p : Problem) (kept : List Kept) (routes : List (List Leg)) → length routes ≡ length p.shipments → cost_underway p (kept_day kept) routes ≡ cost p routes
