use Rattle.std.proofs.Common.{◌≡◌, length}
use Rattle.fp_tree.specs.Ways.{pending_on}
use Rattle.fp_checker.specs.LeafWays.{IsKept, steps_of}
use Rattle.fp_checker.proofs.rules.leaf_ways.LeafWay.advance.Given as goal

-- the steps that went left no trees to come
abbrev pub invariant-loop-step : goal.invariant-loop-step
invariant-loop-step l = record {
  kept : IsKept l.self;
  pending : pending_on (steps_of l.self) ≡ pending_on (steps_of l.fn.self);
}

abbrev pub decreases-loop-step : goal.decreases-loop-step
decreases-loop-step l = length (steps_of l.self)
