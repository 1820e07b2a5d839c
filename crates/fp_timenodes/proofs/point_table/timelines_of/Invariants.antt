-- The places so far are among the points.
use Rattle.std.proofs.Common.{take}
use Rattle.fp_timenodes.specs.Timelines.{StartAt}
use Rattle.fp_timenodes.proofs.point_table.timelines_of.Given as goal

abbrev pub invariant-loop-place : goal.invariant-loop-place
invariant-loop-place l = StartAt l.terminals (take l.place-index l.places) l.timelines.items
