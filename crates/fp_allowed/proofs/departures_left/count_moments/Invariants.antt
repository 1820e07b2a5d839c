use Rattle.fp_allowed.proofs.MomentRows.{MomentsLeft}
use Rattle.fp_allowed.proofs.departures_left.count_moments.Given as goal

abbrev pub invariant-loop-side : goal.invariant-loop-side
invariant-loop-side l = MomentsLeft l.fn.window l.arc l.sides l.side-index l.moments
