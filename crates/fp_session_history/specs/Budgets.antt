-- What a search may spend.
use Rattle.std.specs.Prelude.{ℕ, ◌≤◌}
use Rattle.fp_model.specs.declared.limits.TheConstants.{LAST_ROUND}
use Rattle.fp_tree.specs.declared.layout.TheConstants.{MOST_SPLITS}
use Rattle.fp_session_history.specs.declared.budgets.Budget.{Budget}

-- a budget within the limits
pub record IsBudget (budget : Budget) : Type 0 where
  pub rounds : budget.rounds ≤ LAST_ROUND
  pub branches : budget.branches ≤ MOST_SPLITS
