-- Both ends of each edge are nodes, and there are few edges.
use Rattle.std.proofs.Common.{◌≡◌, ℕ, List, length, sym, ap, ◌∙◌, subst, arith}
use Rattle.std.specs.Prelude.{IfOk}
use Rattle.fp_labels.specs.declared.graphs.Edge.{Edge}
use Rattle.fp_labels.specs.Graphs.{HasEnds, Shape}
use Rattle.fp_model.specs.declared.parts.Leg.{Leg}
use Rattle.fp_model.specs.Problem.{Problem}
use Rattle.fp_flatnet.specs.Tables.{windows_in}
use Rattle.fp_longestarcs.specs.Networks.{TimedNetwork, point_count, points_in}
use Rattle.fp_allowed.specs.Heads.{heads_within}
use Rattle.fp_prices.specs.Points.{edges_by}
use Rattle.fp_prices.proofs.PointEdges.{are-heads_within, edges-joined, few-edges, has-ends}
use Rattle.fp_prices.proofs.graphs.shipment_graphs.graph_within.Goals as goal

pub new-requires-clause-ends : goal.new-requires-clause-ends
new-requires-clause-ends c =
    let p : Problem = c.args.instance.now in
    let net : TimedNetwork = c.args.network.now in
    let heads : Leg → ℕ = heads_within p (windows_in c.args.allowed.now.windows) (points_in net) c.args.shipment in
    let valid = c.in_ok-hold_at_all.ensures.valid in
    let all : c.deref-3.result.now ≡ edges_by p net heads = edges-joined p net heads _ _ _ c.deref-3.ensures.value c.in_ok-hold_at_all.ensures.edges c.in_ok-edges.ensures in
    subst (λ (n : ℕ). HasEnds n c.deref-3.result.now) (sym c.in_ok-firsts.ensures.count)
    (subst (λ (l : List Edge). HasEnds (point_count net) l) (sym all)
    (has-ends p net heads valid c.requires.whole (are-heads_within p net (windows_in c.args.allowed.now.windows) c.args.shipment valid c.requires.whole)))

pub new-requires-clause-few : goal.new-requires-clause-few
new-requires-clause-few c =
    let p : Problem = c.args.instance.now in
    let net : TimedNetwork = c.args.network.now in
    let heads : Leg → ℕ = heads_within p (windows_in c.args.allowed.now.windows) (points_in net) c.args.shipment in
    let all : c.deref-3.result.now ≡ edges_by p net heads = edges-joined p net heads _ _ _ c.deref-3.ensures.value c.in_ok-hold_at_all.ensures.edges c.in_ok-edges.ensures in
    omega (arith, ap (λ (l : List Edge). length l) all, few-edges p net heads c.requires.whole.valid, c.requires.few)

pub returns : goal.returns
returns c =
    let p : Problem = c.args.instance.now in
    let net : TimedNetwork = c.args.network.now in
    let heads : Leg → ℕ = heads_within p (windows_in c.args.allowed.now.windows) (points_in net) c.args.shipment in
    let all : c.deref-3.result.now ≡ edges_by p net heads = edges-joined p net heads _ _ _ c.deref-3.ensures.value c.in_ok-hold_at_all.ensures.edges c.in_ok-edges.ensures in
    let shape : ℕ → List Edge → Shape = λ n l. record { nodes = n; edges = l } in
    subst (λ (s : Shape). IfOk c.new.result (λ graph. graph ≡ s))
    (ap (λ (n : ℕ). shape n c.deref-3.result.now) c.in_ok-firsts.ensures.count ∙ ap (λ (l : List Edge). shape (point_count net) l) all) c.new.ensures
