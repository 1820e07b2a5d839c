use Rattle.fp_replan_present.proofs.KeptDays.{cost-kept, underway-kept}
use Rattle.fp_replan_present.proofs.laws.goes_on_as_kept.Goals as goal

pub returns : goal.returns
returns c = record { underway = underway-kept; cost = cost-kept }
