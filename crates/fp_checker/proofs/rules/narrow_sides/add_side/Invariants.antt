use Rattle.std.proofs.Common.{◌≡◌}
use Rattle.fp_checker.proofs.rules.narrow_sides.add_side.Given as goal

-- the sides are as they were
abbrev pub invariant-loop-place : goal.invariant-loop-place
invariant-loop-place l = l.sides ≡ l.fn.sides
