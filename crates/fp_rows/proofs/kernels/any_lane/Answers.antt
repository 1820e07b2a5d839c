-- The or of the lanes is not 0 exactly where one of them is not.
use Rattle.fp_rows.proofs.AnyWord.{set-fold}
use Rattle.fp_rows.proofs.kernels.any_lane.Goals as goal

pub returns : goal.returns
returns c = set-fold 0 c.args.lanes
