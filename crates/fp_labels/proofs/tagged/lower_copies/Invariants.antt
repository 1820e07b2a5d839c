use Rattle.fp_labels.specs.Layers.{AreLowerEdges}
use Rattle.fp_labels.proofs.tagged.lower_copies.Given as goal

abbrev pub invariant-loop-number : goal.invariant-loop-number
invariant-loop-number l = AreLowerEdges l.nodes l.tag l.edges l.tags l.number l.copies.items
