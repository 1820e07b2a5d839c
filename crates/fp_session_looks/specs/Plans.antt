-- Plans within the windows, with what they cost.
use Rattle.std.specs.Prelude.{ℕ, ◌<◌, ◌≡◌, List}
use Rattle.fp_model.specs.declared.parts.Leg.{Leg}
use Rattle.fp_model.specs.Costs.{cost}
use Rattle.fp_model.specs.Plans.{IsPlan}
use Rattle.fp_model.specs.Problem.{Problem}
use Rattle.fp_flatnet.specs.Tables.{WindowTable, windows_in}
use Rattle.fp_flatnet.specs.Windows.{PlanLiesWithin}
use Rattle.fp_session_looks.specs.declared.cheaper.Cheaper.{Cheaper}

-- a plan in whole units within the windows, with what it costs
pub record IsIncumbent (p : Problem) (table : WindowTable) (legs : List (List Leg)) (n : ℕ) : Type 0 where
  pub plan : IsPlan p 1 legs
  pub within : PlanLiesWithin (windows_in table) 1 legs
  pub costs : n ≡ cost p legs

-- such a plan that costs less than so much
pub record IsBelow (p : Problem) (table : WindowTable) (cost : ℕ) (c : Cheaper) : Type 0 where
  pub incumbent : IsIncumbent p table c.plan c.cost
  pub less : c.cost < cost
