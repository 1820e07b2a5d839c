use Rattle.std.proofs.Common.{take}
use Rattle.fp_tree.specs.Ways.{way_sides}
use Rattle.fp_checker.specs.LeafWays.{AskAlike, steps_of}
use Rattle.fp_checker.proofs.rules.leaf_ways.LeafWay.first_sides.Given as goal

-- the sides so far ask what those of the steps so far do
abbrev pub invariant-loop-place : goal.invariant-loop-place
invariant-loop-place l = AskAlike l.sides.items (take l.place (way_sides (steps_of l.self)))
