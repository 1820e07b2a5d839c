use Rattle.std.proofs.Common.{◌≤◌, ◌+◌, drop}
use Rattle.std.specs.Prelude.{◌↔◌}
use Rattle.fp_certificate_rules.specs.Leaves.{AreNarrowedTrees}
use Rattle.fp_checker.proofs.rules.trees.is_tree.Given as goal

-- the nodes are one tree exactly where those that are left are the trees that are to come
abbrev pub invariant-loop-node : goal.invariant-loop-node
invariant-loop-node l = record {
  few : l.pending ≤ l.node-index + 1;
  same : AreNarrowedTrees l.pending (drop l.node-index l.nodes) ↔ AreNarrowedTrees 1 l.nodes;
}
