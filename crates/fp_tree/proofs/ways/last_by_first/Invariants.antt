use Rattle.std.proofs.Common.{drop}
use Rattle.fp_tree.specs.Ways.{AreBySecond}
use Rattle.fp_tree.proofs.ways.last_by_first.Given as goal

-- the steps that were passed go by their second sides
abbrev pub invariant-loop-place : goal.invariant-loop-place
invariant-loop-place l = AreBySecond (drop l.place l.steps)
