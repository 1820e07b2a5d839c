use Rattle.std.proofs.Common.{◌≡◌, ◌∙◌, List, map, ap, subst, sym}
use Rattle.fp_labels.specs.declared.graphs.Edge.{Edge}
use Rattle.fp_labels.specs.Graphs.{HasEnds, reversed_edge}
use Rattle.fp_labels.proofs.ReversedWalks.{reversed-ends}
use Rattle.fp_labels.proofs.graphs.Graph.reversed.Goals as goal

pub new-requires-clause-ends : goal.new-requires-clause-ends
new-requires-clause-ends c =
    let g = c.self.inside in
    let back : c.deref-2.result.now ≡ map reversed_edge g.edges.items =
    c.deref-2.ensures.value ∙ c.in_ok-back.ensures ∙ ap (λ (xs : List Edge). map reversed_edge xs) c.deref.ensures.value in
    subst (λ (xs : List Edge). HasEnds g.nodes xs) (sym back) (reversed-ends g.nodes g.edges.items c.self.invariant.ends)
