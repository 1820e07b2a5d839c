use Rattle.std.proofs.Common.{◌≡◌, ◌++◌, map, take}
use Rattle.fp_labels.specs.Layers.{upper_edge}
use Rattle.fp_labels.proofs.tagged.with_upper_copies.Given as goal

abbrev pub invariant-loop-edge : goal.invariant-loop-edge
invariant-loop-edge l = l.copies.items ≡ l.fn.copies.items ++ map (upper_edge l.nodes) (take l.edge-index l.edges)
