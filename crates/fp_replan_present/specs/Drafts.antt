-- The day that records so far tell, and the legs of each shipment.
use Rattle.std.specs.Prelude.{ℕ, ◌<◌, [], ◌∷◌, ◌++◌, map, Some}
use Rattle.fp_base_lists.specs.Vectors.{lists_of}
use Rattle.fp_replan.specs.Beginnings.{AreBeginnings}
use Rattle.fp_replan_present.specs.declared.drafts.Draft.{Draft}
use Rattle.fp_replan_present.specs.declared.drafts.Told.{Told}
use Rattle.fp_replan_present.specs.declared.drafts.Told.TheVariants as told
use Rattle.fp_replan_present.specs.Days.{Day, kept_in_tracked}

-- the day of a draft
abbrev pub day_in : Draft → Day
day_in draft = record { time = draft.time; legs = draft.legs.items }

-- a day with what a record tells
abbrev pub told_with : Day → Told → Day
told_with day (told.Now time) = record { time = Some time; legs = day.legs }
told_with day (told.Leg x) = record { time = day.time; legs = day.legs ++ (x ∷ []) }

-- a leg that is told is one of so many shipments
abbrev pub IsToldOf : (count : ℕ) → Told → Type 0
IsToldOf count (told.Now time) = Unit {0}
IsToldOf count (told.Leg x) = x.kept.shipment < count

-- a draft has the legs of each of so many shipments
abbrev pub IsDraft : (count : ℕ) → Draft → Type 0
IsDraft count draft = AreBeginnings (map kept_in_tracked draft.legs.items) count (lists_of draft.beginnings.items)
