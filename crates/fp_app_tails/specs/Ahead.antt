-- What is to be planned after kept legs or in a day that is under way.
use Rattle.std.specs.Prelude.{ℕ, ◌≡◌, ◌≤◌, List, length}
use Rattle.fp_model.specs.Problem.{Problem}
use Rattle.fp_replan.specs.declared.kept.Kept.{Kept}
use Rattle.fp_replan.specs.declared.kept.TheConstants.{MOST_KEPT}
use Rattle.fp_replan.specs.KeptLegs.{AreKept}
use Rattle.fp_replan.specs.KeptWindows.{CanBeKept}
use Rattle.fp_replan.specs.Starts.{IsStuck}
use Rattle.fp_replan_present.specs.Days.{AreTracked, Day}
use Rattle.fp_replan_present.specs.Plans.{IsStuckUnderway, UnderwayExists}
use Rattle.fp_replan_present.specs.Rests.{IsOpen, left_problem}
use Rattle.fp_app_tails.specs.declared.ahead.Ahead.{Ahead}
use Rattle.fp_app_tails.specs.declared.ahead.Ahead.TheVariants as ahead
use Rattle.fp_app_tails.specs.Duties.{Duty, go_on, keep}
use Rattle.fp_app_tails.specs.Windows.{AreDayWindows, AreKeptWindowsOf}

-- of kept legs: the instance with their windows, where some plan keeps them, and else the first shipment
-- that no legs carry that begin with its kept ones
abbrev pub IsKeptAhead : Problem → List Kept → Ahead → Type 0
IsKeptAhead p kept (ahead.Open q windows) = (q ≡ p) × AreKeptWindowsOf p kept windows × CanBeKept p kept
IsKeptAhead p kept (ahead.Stuck k) = IsStuck p kept k × (CanBeKept p kept → ⊥)

-- of a day: what is left of it with its windows, where some plan goes on with it, and else the first shipment
-- that no legs under way carry
abbrev pub IsDayAhead : Problem → Day → Ahead → Type 0
IsDayAhead p day (ahead.Open q windows) = IsOpen p day × AreDayWindows p day q windows × UnderwayExists p day
IsDayAhead p day (ahead.Stuck k) = IsStuckUnderway p day k × (UnderwayExists p day → ⊥)

-- of the one or the other
abbrev pub IsAhead : Problem → Duty → Ahead → Type 0
IsAhead p (keep kept) result = IsKeptAhead p kept result
IsAhead p (go_on day) result = IsDayAhead p day result

-- the instance that is to be planned
abbrev pub ahead_problem : Problem → Duty → Problem
ahead_problem p (keep kept) = p
ahead_problem p (go_on day) = left_problem p day

-- the legs can be kept or tracked, and are not too many
abbrev pub CanBeTold : Problem → Duty → Type 0
CanBeTold p (keep kept) = AreKept p kept × (length kept ≤ MOST_KEPT)
CanBeTold p (go_on day) = AreTracked p day × (length day.legs ≤ MOST_KEPT)

-- a plan keeps the legs, or goes on with the day, over some denominator
abbrev pub GoesOn : Problem → Duty → Type 0
GoesOn p (keep kept) = CanBeKept p kept
GoesOn p (go_on day) = UnderwayExists p day

-- the first shipment that is stuck
abbrev pub IsStuckAt : Problem → Duty → ℕ → Type 0
IsStuckAt p (keep kept) k = IsStuck p kept k
IsStuckAt p (go_on day) k = IsStuckUnderway p day k
