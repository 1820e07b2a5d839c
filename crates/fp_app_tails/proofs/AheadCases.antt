-- What is to be planned, or who is the first that is stuck.
use Rattle.std.proofs.Common.{◌≡◌, ℕ, sym, subst}
use Rattle.fp_model.specs.Problem.{Problem}
use Rattle.fp_flatnet.specs.Belonging.{BelongsTo}
use Rattle.fp_flatnet.specs.Tables.{WindowTable}
use Rattle.fp_app_tails.specs.declared.ahead.Ahead.TheVariants as ahead
use Rattle.fp_app_tails.specs.Ahead.{GoesOn, IsAhead, IsStuckAt, ahead_problem}
use Rattle.fp_app_tails.specs.Duties.{Duty, go_on, keep}
use Rattle.fp_app_tails.specs.Verdicts.{AreWindowsAhead}
use Rattle.fp_app_tails.specs.Windows.{AreDayWindows}

module _ (p : Problem) where
  -- where something is to be planned some plan goes on
  pub open-goes : (duty : Duty) (q : Problem) (table : WindowTable) → IsAhead p duty (ahead.Open q table) → GoesOn p duty
  open-goes (keep kept) q table is = is.2
  open-goes (go_on day) q table is = is.2

  pub open-same : (duty : Duty) (q : Problem) (table : WindowTable) → IsAhead p duty (ahead.Open q table) → q ≡ ahead_problem p duty
  open-same (keep kept) q table is = is.0
  open-same (go_on day) q table is = is.1.left

  pub open-windows : (duty : Duty) (q : Problem) (table : WindowTable) → IsAhead p duty (ahead.Open q table) → AreWindowsAhead p duty table
  open-windows (keep kept) q table is = is.1
  open-windows (go_on day) q table is = subst (λ (x : Problem). AreDayWindows p day x table) is.1.left is.1

  -- the windows belong to it
  pub open-belongs : (duty : Duty) (q : Problem) (table : WindowTable) → IsAhead p duty (ahead.Open q table) → BelongsTo q table
  open-belongs (keep kept) q table is = subst (λ (x : Problem). BelongsTo x table) (sym is.0) is.1.belongs
  open-belongs (go_on day) q table is = is.1.belongs

  -- and where a shipment is stuck none does
  pub stuck-at : (duty : Duty) (k : ℕ) → IsAhead p duty (ahead.Stuck k) → IsStuckAt p duty k × (GoesOn p duty → ⊥)
  stuck-at (keep kept) k is = is
  stuck-at (go_on day) k is = is
