-- The windows of what is left of a day, from what makes them.
use Rattle.std.proofs.Common.{◌≤◌, ℕ, List, refl, subst, arith}
use Rattle.fp_base_lists.specs.Vectors.{lists_of}
use Rattle.fp_model.specs.declared.parts.Leg.{Leg}
use Rattle.fp_model.specs.Problem.{Problem}
use Rattle.fp_flatnet.specs.Belonging.{BelongsTo}
use Rattle.fp_flatnet.specs.Tables.{WindowTable, windows_in}
use Rattle.fp_flatnet.specs.Windows.{PlanLiesWithin}
use Rattle.fp_replan.specs.declared.kept.Kept.{Kept}
use Rattle.fp_replan.specs.KeptWindows.{AreKeptAnchors}
use Rattle.fp_replan_present.specs.declared.rests.Rest.{Rest}
use Rattle.fp_replan_present.specs.Days.{Day}
use Rattle.fp_replan_present.specs.Parts.{IsStart}
use Rattle.fp_replan_present.specs.Plans.{UnderwayExists}
use Rattle.fp_replan_present.specs.Rests.{IsRest, joined, left_kept}
use Rattle.fp_replan_present.specs.Windows.{AreRestWindows, TellCheaper, TellUnderway}
use Rattle.fp_replan_present.proofs.RestPlans.{costs-joined}
use Rattle.fp_app_tails.specs.Windows.{AreDayWindows}

module _ (p : Problem) (day : Day) (rest : Rest) (table : WindowTable) (is : IsRest p day rest) where
  pub day-windows : BelongsTo rest.instance table → AreRestWindows rest.instance rest.kept.items (lists_of rest.gone.items) (windows_in table) → AreKeptAnchors rest.instance rest.kept.items table.anchors →
      TellUnderway p day (windows_in table) → TellCheaper p day (windows_in table) → AreDayWindows p day rest.instance table
  day-windows belongs exact anchored tell cheaper = record {
    left = is.instance;
    exact = subst (λ (gone : List (List ℕ)). AreRestWindows rest.instance (left_kept p day) gone (windows_in table)) is.gone
        (subst (λ (kept : List Kept). AreRestWindows rest.instance kept (lists_of rest.gone.items) (windows_in table)) is.kept exact);
    anchored = subst (λ (kept : List Kept). AreKeptAnchors rest.instance kept table.anchors) is.kept anchored;
    belongs = belongs;
    tell = tell;
    cheaper = cheaper;
  }

  -- and a plan is under way: the one with which a search begins
  pub day-exists : (start : List (List Leg)) → IsStart p day start → PlanLiesWithin (windows_in table) 1 start → TellUnderway p day (windows_in table) → UnderwayExists p day
  day-exists start begins within tell =
      let some : 1 ≤ 1 = omega arith in
      (1, joined p day 1 start, some, (tell 1 (joined p day 1 start) some).1 (record { rests = start; same = refl; plan = begins.plan; within = within; costs = costs-joined p day 1 start begins.plan }))
