use Rattle.std.proofs.Common.{◌-◌, ◌^◌}
use Rattle.fp_timenodes.specs.Points.{points_at}
use Rattle.fp_longestarcs.proofs.PointLists.{AreUntil}
use Rattle.fp_longestarcs.proofs.listing.times_at.Given as goal

abbrev pub invariant-loop-next : goal.invariant-loop-next
invariant-loop-next l = AreUntil (points_at l.points l.terminal l.round) l.times.items l.last

abbrev pub decreases-loop-next : goal.decreases-loop-next
decreases-loop-next l = 2 ^ 32 - l.last
