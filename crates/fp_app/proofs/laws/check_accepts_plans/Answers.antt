use Rattle.fp_app.proofs.PlansAccepted.{CheckAcceptsPlans_hold}
use Rattle.fp_app.proofs.laws.check_accepts_plans.Goals as goal

pub returns : goal.returns
returns c = CheckAcceptsPlans_hold
