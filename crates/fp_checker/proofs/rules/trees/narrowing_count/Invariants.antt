use Rattle.std.proofs.Common.{◌≡◌, ◌≤◌, length, take}
use Rattle.fp_certificate_rules.specs.Leaves.{narrowings_among}
use Rattle.fp_checker.proofs.rules.trees.narrowing_count.Given as goal

-- how many of the nodes that were passed are narrowings
abbrev pub invariant-loop-node : goal.invariant-loop-node
invariant-loop-node l = record {
  few : l.count ≤ l.node-index;
  same : l.count ≡ length (narrowings_among (take l.node-index l.nodes));
}
