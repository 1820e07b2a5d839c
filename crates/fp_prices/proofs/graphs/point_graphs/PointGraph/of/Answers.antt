-- Both ends of each edge are nodes, and there are few edges.
use Rattle.std.proofs.Common.{◌≡◌, ℕ, List, length, sym, ap, subst, arith}
use Rattle.fp_labels.specs.declared.graphs.Edge.{Edge}
use Rattle.fp_labels.specs.Graphs.{HasEnds}
use Rattle.fp_model.specs.declared.parts.Leg.{Leg}
use Rattle.fp_model.specs.Problem.{Problem}
use Rattle.fp_longestarcs.specs.Classes.{head_of}
use Rattle.fp_longestarcs.specs.Networks.{TimedNetwork, point_count, points_in}
use Rattle.fp_prices.specs.Points.{edges_of}
use Rattle.fp_prices.proofs.PointEdges.{are-heads, edges-joined, few-edges, has-ends}
use Rattle.fp_prices.proofs.graphs.point_graphs.PointGraph.of.Goals as goal

pub new-requires-clause-ends : goal.new-requires-clause-ends
new-requires-clause-ends c =
    let p : Problem = c.args.instance.now in
    let net : TimedNetwork = c.args.network.now in
    let heads : Leg → ℕ = head_of p (points_in net) in
    let valid = c.in_ok-hold_at_all.ensures.valid in
    let all : c.deref-3.result.now ≡ edges_of p net = edges-joined p net heads _ _ _ c.deref-3.ensures.value c.in_ok-hold_at_all.ensures.edges c.in_ok-edges.ensures in
    subst (λ (n : ℕ). HasEnds n c.deref-3.result.now) (sym c.in_ok-firsts.ensures.count)
    (subst (λ (l : List Edge). HasEnds (point_count net) l) (sym all) (has-ends p net heads valid c.requires.whole (are-heads p net valid c.requires.whole)))

pub new-requires-clause-few : goal.new-requires-clause-few
new-requires-clause-few c =
    let p : Problem = c.args.instance.now in
    let net : TimedNetwork = c.args.network.now in
    let heads : Leg → ℕ = head_of p (points_in net) in
    let all : c.deref-3.result.now ≡ edges_of p net = edges-joined p net heads _ _ _ c.deref-3.ensures.value c.in_ok-hold_at_all.ensures.edges c.in_ok-edges.ensures in
    omega (arith, ap (λ (l : List Edge). length l) all, few-edges p net heads c.requires.whole.valid, c.requires.few)
