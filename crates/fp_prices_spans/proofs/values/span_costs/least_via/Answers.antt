-- The graph by the heads of the shipment has as many edges as there are costs, few also in all layers.
use Rattle.std.proofs.Common.{◌≡◌, ℕ, ◌*◌, ◌^◌, ◌≤◌, List, length, ap, ◌∙◌, subst, arith}
use Rattle.std.specs.Prelude.{All, Err, IfOk, IfSome, Ok, Option, Result}
use Rattle.std.specs.declared.alloc.AllocError.{AllocError}
use Rattle.std.proofs.Math.Nat.{mul-le-mul_right}
use Rattle.fp_labels.specs.Graphs.{Shape}
use Rattle.fp_labels.specs.TaggedWalks.{IsTaggedDistance}
use Rattle.fp_model.specs.declared.parts.Leg.{Leg}
use Rattle.fp_model.specs.Numbered.{shipment_at}
use Rattle.fp_model.specs.Problem.{Problem}
use Rattle.fp_flatnet.specs.Tables.{windows_in}
use Rattle.fp_longestarcs.specs.Classes.{head_of}
use Rattle.fp_longestarcs.specs.Networks.{TimedNetwork, points_in}
use Rattle.fp_allowed.specs.Heads.{heads_within}
use Rattle.fp_prices.specs.Points.{edges_by, first_node, last_node, shape_by}
use Rattle.fp_prices.specs.Rounds.{LeafModel}
use Rattle.fp_prices.proofs.PointEdges.{few-edges}
use Rattle.fp_prices_spans.specs.TaggedEdges.{AreArcTags, IsDistanceVia}
use Rattle.fp_prices_spans.proofs.LeafWays.{layers-at_most}
use Rattle.fp_prices_spans.proofs.values.span_costs.least_via.Goals as goal

pub arc_tags-requires : goal.arc_tags-requires
arc_tags-requires c =
    let leaf : LeafModel = c.args.by_spans.now.pricing.now.leaf in
    let p : Problem = leaf.setting.problem in
    let net : TimedNetwork = leaf.setting.network in
    omega (arith, c.requires.edges, few-edges p net (head_of p (points_in net)) c.requires.whole.valid, c.requires.points)

-- the graph of a leaf by the heads of a shipment
abbrev graph_of : LeafModel → ℕ → Shape
graph_of leaf k = shape_by leaf.setting.problem leaf.setting.network (heads_within leaf.setting.problem (windows_in leaf.setting.windows) (points_in leaf.setting.network) k)

pub tagged_distance-requires-clause-few_edges : goal.tagged_distance-requires-clause-few_edges
tagged_distance-requires-clause-few_edges c =
    let leaf : LeafModel = c.args.by_spans.now.pricing.now.leaf in
    let p : Problem = leaf.setting.problem in
    let net : TimedNetwork = leaf.setting.network in
    let heads : Leg → ℕ = heads_within p (windows_in leaf.setting.windows) (points_in net) c.args.shipment in
    let graph : c.in_ok-graph.graph ≡ shape_by p net heads = c.in_ok-graph.ensures ∙ ap (λ (l : LeafModel). graph_of l c.args.shipment) c.leaf-leaf.ensures in
    let long : length c.in_ok-graph.graph.edges ≡ length (edges_by p net heads) = ap (λ (s : Shape). length s.edges) graph in
    let layers : 2 ^ length c.args.ways.now * length c.in_ok-graph.graph.edges ≤ 16 * length c.in_ok-graph.graph.edges = mul-le-mul_right (length c.in_ok-graph.graph.edges) (layers-at_most (length c.args.ways.now) c.requires.few) in
    omega (arith, layers, long, few-edges p net heads c.requires.whole.valid, c.requires.points)

-- what is found with some tags is the distance
with-tags : (leaf : LeafModel) (ways : List ℕ) (k : ℕ) (costs tags : List (Option ℕ)) → AreArcTags leaf.setting.network (length costs) tags → (r : Result (Option ℕ) AllocError) →
    IfOk r (IsTaggedDistance (graph_of leaf k).edges costs tags ways (first_node leaf.setting.network (shipment_at leaf.setting.problem k).from) (last_node leaf.setting.network (shipment_at leaf.setting.problem k).to)) →
    IfOk r (IsDistanceVia leaf ways k costs)
with-tags leaf ways k costs tags are (Err e) found = tt
with-tags leaf ways k costs tags are (Ok cost) found = record { tags = tags; are = are; is = found }

pub returns-clause-exact : goal.returns-clause-exact
returns-clause-exact c =
    let leaf : LeafModel = c.args.by_spans.now.pricing.now.leaf in
    let p : Problem = leaf.setting.problem in
    let net : TimedNetwork = leaf.setting.network in
    let k : ℕ = c.args.shipment in
    let heads : Leg → ℕ = heads_within p (windows_in leaf.setting.windows) (points_in net) k in
    let costs : List (Option ℕ) = c.args.costs.now in
    let ways : List ℕ = c.args.ways.now in
    let graph : c.in_ok-graph.graph ≡ shape_by p net heads = c.in_ok-graph.ensures ∙ ap (λ (l : LeafModel). graph_of l k) c.leaf-leaf.ensures in
    let problem : c.round-round.result.now.problem ≡ p = c.round-round.ensures.problem ∙ ap (λ (l : LeafModel). l.setting.problem) c.leaf-leaf.ensures in
    let network : c.round-round.result.now.network ≡ net = c.round-round.ensures.network ∙ ap (λ (l : LeafModel). l.setting.network) c.leaf-leaf.ensures in
    let start : c.start.result ≡ first_node net (shipment_at p k).from =
    c.start.ensures.node ∙ ap (λ (n : TimedNetwork). first_node n (shipment_at c.round-round.result.now.problem k).from) network ∙ ap (λ (q : Problem). first_node net (shipment_at q k).from) problem in
    let end : c.end.result ≡ last_node net (shipment_at p k).to =
    c.end.ensures.node ∙ ap (λ (n : TimedNetwork). last_node n (shipment_at c.round-round.result.now.problem k).to) network ∙ ap (λ (q : Problem). last_node net (shipment_at q k).to) problem in
    let are : AreArcTags net (length costs) c.in_ok-tags.tags.items = subst (λ (n : TimedNetwork). AreArcTags n (length costs) c.in_ok-tags.tags.items) (c.network.ensures.same ∙ network) c.in_ok-tags.ensures in
    let found : IfOk c.tagged_distance.result (IsTaggedDistance (edges_by p net heads) costs c.in_ok-tags.tags.items ways (first_node net (shipment_at p k).from) (last_node net (shipment_at p k).to)) =
    subst (λ (n : ℕ). IfOk c.tagged_distance.result (IsTaggedDistance (edges_by p net heads) costs c.in_ok-tags.tags.items ways (first_node net (shipment_at p k).from) n)) end
    (subst (λ (n : ℕ). IfOk c.tagged_distance.result (IsTaggedDistance (edges_by p net heads) costs c.in_ok-tags.tags.items ways n c.end.result)) start
    (subst (λ (tags : List (Option ℕ)). IfOk c.tagged_distance.result (IsTaggedDistance (edges_by p net heads) costs tags ways c.start.result c.end.result)) c.deref.ensures.value
    (subst (λ (s : Shape). IfOk c.tagged_distance.result (IsTaggedDistance s.edges costs c.deref.result.now ways c.start.result c.end.result)) graph c.tagged_distance.ensures.exact))) in
    with-tags leaf ways k costs c.in_ok-tags.tags.items are c.tagged_distance.result found

pub returns-clause-small : goal.returns-clause-small
returns-clause-small c =
    let leaf : LeafModel = c.args.by_spans.now.pricing.now.leaf in
    let ways : List ℕ = c.args.ways.now in
    let graph : c.in_ok-graph.graph ≡ graph_of leaf c.args.shipment = c.in_ok-graph.ensures ∙ ap (λ (l : LeafModel). graph_of l c.args.shipment) c.leaf-leaf.ensures in
    subst
    (λ (s : Shape). IfOk c.tagged_distance.result (λ cost. (most : ℕ) → All (λ o. IfSome o (λ n. n ≤ most)) c.args.costs.now → IfSome cost (λ n. n ≤ 2 ^ length ways * s.nodes * most))) graph c.tagged_distance.ensures.small
