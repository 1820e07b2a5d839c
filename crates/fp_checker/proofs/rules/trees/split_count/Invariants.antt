use Rattle.std.proofs.Common.{◌≡◌, ◌≤◌, length, take}
use Rattle.fp_model.specs.Problem.{Problem}
use Rattle.fp_tree.specs.Trees.{tree_splits}
use Rattle.fp_certificate_rules.specs.Leaves.{fork_of}
use Rattle.fp_checker.proofs.rules.trees.split_count.Given as goal

-- how many of the nodes that were passed are splits
abbrev pub invariant-loop-node : goal.invariant-loop-node
invariant-loop-node l = record {
  few : l.count ≤ l.node-index;
  same : (p : Problem) → l.count ≡ length (tree_splits (fork_of p) (take l.node-index l.nodes));
}
