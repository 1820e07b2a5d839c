-- The windows of the plans that keep legs, and of those of what is left that go on with a day.
use Rattle.std.specs.Prelude.{◌≡◌, List}
use Rattle.fp_model.specs.Problem.{Problem}
use Rattle.fp_flatnet.specs.Belonging.{BelongsTo}
use Rattle.fp_flatnet.specs.Tables.{WindowTable, windows_in}
use Rattle.fp_replan.specs.declared.kept.Kept.{Kept}
use Rattle.fp_replan.specs.KeptWindows.{AreKeptAnchors, AreKeptWindows, TellKept}
use Rattle.fp_replan_present.specs.Days.{Day}
use Rattle.fp_replan_present.specs.Rests.{left_gone, left_kept, left_problem}
use Rattle.fp_replan_present.specs.Windows.{AreRestWindows, TellCheaper, TellUnderway}

-- the windows of the plans that keep legs, anchored at the kept legs' tails: every plan, over
-- whatever denominator, lies within them exactly where it keeps the legs
pub record AreKeptWindowsOf (p : Problem) (kept : List Kept) (table : WindowTable) : Type 0 where
  pub exact : AreKeptWindows p kept (windows_in table)
  pub anchored : AreKeptAnchors p kept table.anchors
  pub belongs : BelongsTo p table
  pub tell : TellKept p kept (windows_in table)

-- the windows of what is left of a day, which is the instance: those of its promised legs, but none that
-- enters a terminal where the shipment was, anchored at the tails of these legs. Routes are a plan under way,
-- over whatever denominator, exactly where they are the settled legs and a plan within the windows, and none
-- is cheaper exactly where none within them is.
pub record AreDayWindows (p : Problem) (day : Day) (q : Problem) (table : WindowTable) : Type 0 where
  pub left : q ≡ left_problem p day
  pub exact : AreRestWindows q (left_kept p day) (left_gone p day) (windows_in table)
  pub anchored : AreKeptAnchors q (left_kept p day) table.anchors
  pub belongs : BelongsTo q table
  pub tell : TellUnderway p day (windows_in table)
  pub cheaper : TellCheaper p day (windows_in table)
