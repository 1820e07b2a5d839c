use Rattle.std.proofs.Common.{◌≡◌, map, take}
use Rattle.fp_tree.specs.Nodes.{Node, fork_of}
use Rattle.fp_tree.specs.Trees.{tree_splits}
use Rattle.fp_session.specs.declared.payloads.Payload.{Payload}
use Rattle.fp_session.specs.Nodes.{split_note}
use Rattle.fp_session.proofs.tree_lines.split_notes.Given as goal

abbrev pub invariant-loop-split : goal.invariant-loop-split
invariant-loop-split l = l.notes.items ≡ map (λ (n : Node Payload). split_note n.payload) (take l.split (tree_splits fork_of l.tree))
