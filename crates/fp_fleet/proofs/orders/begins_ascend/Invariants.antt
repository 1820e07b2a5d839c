use Rattle.std.proofs.Common.{◌<◌}
use Rattle.std.specs.List.{AllAdjacentBelow}
use Rattle.fp_fleet.specs.declared.fleets.Begin.{Begin}
use Rattle.fp_fleet.proofs.orders.begins_ascend.Given as goal

-- the begins before this place are in order
abbrev pub invariant-loop-place : goal.invariant-loop-place
invariant-loop-place l = AllAdjacentBelow (λ (b c : Begin). b.line < c.line) l.begins l.place
