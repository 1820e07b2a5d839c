use Rattle.std.proofs.Common.{◌≡◌, ◌∙◌, ℕ, List, length, map, sym, ap, subst}
use Rattle.fp_labels.specs.declared.graphs.Edge.{Edge}
use Rattle.fp_labels.specs.Graphs.{HasEnds}
use Rattle.fp_flatnet.specs.ArcGraphs.{backward_edge}
use Rattle.fp_flatnet.proofs.ArcTimes.{backward-ends}
use Rattle.fp_replan.proofs.onward.backward_graph.Goals as goal

pub new-requires-clause-ends : goal.new-requires-clause-ends
new-requires-clause-ends c =
    let p = c.args.instance.now in
    let all : c.deref.result.now ≡ map backward_edge p.arcs = c.deref.ensures.value ∙ c.in_ok-edges.ensures in
    let nodes : length c.terminals.result.now ≡ length p.terminals = ap (λ (xs : List (List ℕ)). length xs) c.terminals.ensures.same in
    subst (λ n. HasEnds n c.deref.result.now) (sym nodes) (subst (λ (es : List Edge). HasEnds (length p.terminals) es) (sym all) (backward-ends p c.terminals.ensures.valid))
