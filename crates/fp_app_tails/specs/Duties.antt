-- What the records after an instance ask of its plans: that they keep legs, or go on with a day.
use Rattle.std.specs.Prelude.{List}
use Rattle.fp_replan.specs.declared.kept.Kept.{Kept}
use Rattle.fp_replan_present.specs.Days.{Day}
use Rattle.fp_app_tails.specs.declared.ahead.Told.{Told}
use Rattle.fp_app_tails.specs.declared.ahead.Told.TheVariants as told

pub data Duty : Type 0 where
  keep : List Kept → Duty
  go_on : Day → Duty

-- that of what was told
abbrev pub duty_of : Told → Duty
duty_of (told.Kept kept) = keep kept.items
duty_of (told.Day day) = go_on day
