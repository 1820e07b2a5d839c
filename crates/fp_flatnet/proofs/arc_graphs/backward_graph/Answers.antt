use Rattle.std.proofs.Common.{◌≡◌, List, length, map, sym, subst}
use Rattle.fp_labels.specs.declared.graphs.Edge.{Edge}
use Rattle.fp_labels.specs.Graphs.{HasEnds}
use Rattle.fp_flatnet.specs.ArcGraphs.{backward_edge}
use Rattle.fp_flatnet.proofs.ArcTimes.{backward-ends}
use Rattle.fp_flatnet.proofs.arc_graphs.backward_graph.Goals as goal

pub arc_graph-requires-clause-ends : goal.arc_graph-requires-clause-ends
arc_graph-requires-clause-ends c =
    let p = c.args.instance.now in
    let made : c.deref.result.now ≡ map backward_edge p.arcs = cc (c.deref.ensures.value, c.in_ok-edges.ensures, c.arcs.ensures.same) in
    subst (λ (edges : List Edge). HasEnds (length p.terminals) edges) (sym made) (backward-ends p c.arcs.ensures.valid)
