use Rattle.std.proofs.Common.{take}
use Rattle.fp_certificate_rules.proofs.AddedPoints.{HaveAdded}
use Rattle.fp_checker.proofs.rules.added_points.told_points.Given as goal

-- the points that were passed are added
abbrev pub invariant-loop-point : goal.invariant-loop-point
invariant-loop-point l = HaveAdded l.instance l.windows.anchors (take l.point-index l.added) l.points
