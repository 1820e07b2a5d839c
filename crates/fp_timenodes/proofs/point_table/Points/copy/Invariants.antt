-- The timelines so far are copied.
use Rattle.std.proofs.Common.{◌≡◌, take}
use Rattle.fp_timenodes.proofs.point_table.Points.copy.Given as goal

abbrev pub invariant-loop-timeline : goal.invariant-loop-timeline
invariant-loop-timeline l = l.timelines.items ≡ take l.timeline-index l.self-inside.timelines.items
