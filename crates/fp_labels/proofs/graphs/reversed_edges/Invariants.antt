use Rattle.std.proofs.Common.{◌≡◌, map, take}
use Rattle.fp_labels.specs.Graphs.{reversed_edge}
use Rattle.fp_labels.proofs.graphs.reversed_edges.Given as goal

abbrev pub invariant-loop-edge : goal.invariant-loop-edge
invariant-loop-edge l = l.back.items ≡ map reversed_edge (take l.edge-index l.edges)
