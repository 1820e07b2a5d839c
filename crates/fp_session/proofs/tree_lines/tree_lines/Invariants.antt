use Rattle.std.proofs.Common.{◌≡◌, take}
use Rattle.fp_tree.specs.Nodes.{fork_of}
use Rattle.fp_session.specs.TreeLines.{lines_of}
use Rattle.fp_session.proofs.LeafNumbers.{leaves_before}
use Rattle.fp_session.proofs.tree_lines.tree_lines.Given as goal

abbrev pub invariant-loop-node : goal.invariant-loop-node
invariant-loop-node l = record {
  lines : l.lines.items ≡ lines_of (take l.node l.tree);
  leaf : l.leaf ≡ leaves_before fork_of l.node l.tree;
}
