use Rattle.fp_app_words.proofs.TimeLimits.{TimeLimitsHold_hold}
use Rattle.fp_app_words.proofs.laws.time_limits_hold.Goals as goal

pub returns : goal.returns
returns c = TimeLimitsHold_hold
