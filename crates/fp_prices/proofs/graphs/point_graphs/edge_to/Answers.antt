-- Each end of the edge is its point's node.
use Rattle.std.proofs.Common.{ℕ, ap, ◌∙◌}
use Rattle.fp_labels.specs.declared.graphs.Edge.{Edge}
use Rattle.fp_model.specs.declared.parts.Arc.{Arc}
use Rattle.fp_model.specs.Problem.{arc_at}
use Rattle.fp_longestarcs.specs.Networks.{TimedNetwork}
use Rattle.fp_prices.specs.Points.{point_node}
use Rattle.fp_prices.proofs.graphs.point_graphs.edge_to.Goals as goal

pub returns : goal.returns
returns c =
    let net : TimedNetwork = c.args.network.now in
    let arc : Arc = arc_at c.args.instance.now c.args.arc in
    let edge : ℕ → ℕ → Edge = λ a b. record { from = a; to = b } in
    ap (λ (n : ℕ). edge n c.node_of-2.result) (c.node_of.ensures ∙ ap (λ (a : Arc). point_node net a.from c.args.point) c.arc-taken.ensures.same) ∙
    ap (λ (n : ℕ). edge (point_node net arc.from c.args.point) n) (c.node_of-2.ensures ∙ ap (λ (a : Arc). point_node net a.to c.args.head) c.arc-taken.ensures.same)
