use Rattle.std.proofs.Common.{◌≤◌}
use Rattle.std.specs.List.{AllAdjacentBelow}
use Rattle.fp_timenodes.specs.declared.places.AddedPoint.{AddedPoint}
use Rattle.fp_checker.proofs.rules.added_points.rounds_ascend.Given as goal

-- the rounds before this place don't fall
abbrev pub invariant-loop-place : goal.invariant-loop-place
invariant-loop-place l = AllAdjacentBelow (λ (q r : AddedPoint). q.round ≤ r.round) l.added l.place
