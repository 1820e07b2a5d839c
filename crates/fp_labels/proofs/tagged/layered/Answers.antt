use Rattle.std.proofs.Common.{◌≡◌, ◌∙◌, ℕ, ◌+◌, List, ◌++◌, map, subst, sym}
use Rattle.fp_labels.specs.declared.graphs.Edge.{Edge}
use Rattle.fp_labels.specs.Graphs.{HasEnds}
use Rattle.fp_labels.specs.Layers.{upper_edge}
use Rattle.fp_labels.proofs.LayeredEdges.{layered-append, layered-ends}
use Rattle.fp_labels.proofs.tagged.layered.Goals as goal

pub new-requires-clause-ends : goal.new-requires-clause-ends
new-requires-clause-ends c =
    let nodes : ℕ = c.nodes-nodes.result in
    let edges : List Edge = c.edges-edges.result.now in
    let ends : HasEnds nodes edges = rw (c.nodes-nodes.ensures.value, c.edges-edges.ensures.same) c.nodes-nodes.ensures.ends in
    let are = layered-append nodes c.args.tag edges c.args.tags.now c.in_ok-lower.lower.items c.in_ok-lower.ensures in
    let both : c.deref.result.now ≡ c.in_ok-lower.lower.items ++ map (upper_edge nodes) edges = c.deref.ensures.value ∙ c.in_ok-both.ensures in
    subst (λ (xs : List Edge). HasEnds (nodes + nodes) xs) (sym both)
    (layered-ends nodes c.args.tag edges c.args.tags.now (c.in_ok-lower.lower.items ++ map (upper_edge nodes) edges) ends are)
