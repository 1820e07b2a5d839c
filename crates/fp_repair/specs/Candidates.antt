-- Plans that a repair may answer with.
use Rattle.std.specs.Prelude.{ℕ, ◌≡◌, List, Option}
use Rattle.fp_model.specs.declared.parts.Leg.{Leg}
use Rattle.fp_model.specs.Costs.{cost}
use Rattle.fp_model.specs.Plans.{IsPlan}
use Rattle.fp_model.specs.Problem.{Problem}
use Rattle.fp_flatnet.specs.declared.window_tables.Window.{Window}
use Rattle.fp_flatnet.specs.Windows.{PlanLiesWithin}
use Rattle.fp_repair.specs.declared.candidates.Candidate.{Candidate}

-- a plan over 1 that lies within the windows
pub record IsPlanWithin (p : Problem) (windows : ℕ → ℕ → Option Window) (legs : List (List Leg)) : Type 0 where
  pub plan : IsPlan p 1 legs
  pub within : PlanLiesWithin windows 1 legs

-- such a plan, and what it costs
pub record IsCandidate (p : Problem) (windows : ℕ → ℕ → Option Window) (c : Candidate) : Type 0 where
  pub plan : IsPlanWithin p windows c.plan
  pub cost : c.cost ≡ cost p c.plan
