use Rattle.std.proofs.Common.{◌≡◌, ℕ, ◌*◌, ◌<◌, ◌≤◌, List, [], ◌∷◌, length, false, sym, ap, ◌∙◌, subst, arith}
use Rattle.std.specs.Prelude.{All, Err, IfOk, IfSome, Ok, Option, Result, ◌==◌}
use Rattle.std.specs.declared.alloc.AllocError.{AllocError}
use Rattle.std.proofs.lemmas.Bool.{eqb-true, false≢true}
use Rattle.fp_labels.specs.Graphs.{Shape}
use Rattle.fp_labels.specs.ThroughWalks.{IsLeastThrough}
use Rattle.fp_labels.specs.Walks.{cost_of}
use Rattle.fp_model.specs.declared.parts.Leg.{Leg}
use Rattle.fp_model.specs.Numbered.{shipment_at}
use Rattle.fp_model.specs.Problem.{Problem}
use Rattle.fp_flatnet.specs.Tables.{windows_in}
use Rattle.fp_longestarcs.specs.Networks.{TimedNetwork, points_in}
use Rattle.fp_allowed.specs.Heads.{heads_within}
use Rattle.fp_prices.specs.Points.{edges_of, first_node, last_node, shape_by, shape_of}
use Rattle.fp_prices.specs.Rounds.{LeafModel, RoundModel}
use Rattle.fp_prices.proofs.PointEdges.{length-edges, length-edges_by}
use Rattle.fp_prices_spans.specs.SpanCosts.{heads_at}
use Rattle.fp_prices_spans.specs.Spans.{ClassSpan}
use Rattle.fp_prices_bars.specs.ThroughCosts.{AreThroughEdges}
use Rattle.fp_prices_spans.proofs.LeafHeads.{heads-with, heads-without}
use Rattle.fp_prices_bars.proofs.through_costs.costs_by_edges.Goals as goal

-- what is found over a graph is so over that of the points by heads, where it is this graph
over : {X : Type 0} (items : X → List (Option ℕ)) (p : Problem) (net : TimedNetwork) (heads : Leg → ℕ) (k : ℕ) (costs : List (Option ℕ)) (shape : Shape) (start end : ℕ) → shape ≡ shape_by p net heads →
    start ≡ first_node net (shipment_at p k).from → end ≡ last_node net (shipment_at p k).to → (r : Result X AllocError) → IfOk r (λ through. length (items through) ≡ length shape.edges) →
    IfOk r (λ through. (e : ℕ) → e < length shape.edges → IsLeastThrough shape.edges costs start end e (cost_of (items through) e)) →
    IfOk r (λ through. (most : ℕ) → All (λ o. IfSome o (λ (n : ℕ). n ≤ most)) costs → All (λ o. IfSome o (λ (n : ℕ). n ≤ 2 * shape.nodes * most)) (items through)) →
    IfOk r (λ through. AreThroughEdges p net heads k costs (items through))
over items p net heads k costs shape start end is starts ends (Err e) len exact small = tt
over items p net heads k costs shape start end is starts ends (Ok through) len exact small =
    let long : length shape.edges ≡ length (edges_of p net) = ap (λ (s : Shape). length s.edges) is ∙ length-edges_by p net heads ∙ sym (length-edges p net) in
    record {
      len = len ∙ long;
      exact = λ e inside.
          subst (λ (s : Shape). IsLeastThrough s.edges costs (first_node net (shipment_at p k).from) (last_node net (shipment_at p k).to) e (cost_of (items through) e)) is
          (subst (λ (n : ℕ). IsLeastThrough shape.edges costs (first_node net (shipment_at p k).from) n e (cost_of (items through) e)) ends
          (subst (λ (n : ℕ). IsLeastThrough shape.edges costs n end e (cost_of (items through) e)) starts (exact e (omega (arith, inside, long)))));
      small = λ most all. subst (λ (s : Shape). All (λ o. IfSome o (λ (n : ℕ). n ≤ 2 * s.nodes * most)) (items through)) is (small most all);
    }

-- the nodes at which a shipment begins and ends over a round are those of its instance and network
begins : (round : RoundModel) (p : Problem) (net : TimedNetwork) (k n : ℕ) → round.problem ≡ p → round.network ≡ net → n ≡ first_node round.network (shipment_at round.problem k).from → n ≡ first_node net (shipment_at p k).from
begins round p net k n problem network is = is ∙ ap (λ (t : TimedNetwork). first_node t (shipment_at round.problem k).from) network ∙ ap (λ (q : Problem). first_node net (shipment_at q k).from) problem

arrives : (round : RoundModel) (p : Problem) (net : TimedNetwork) (k n : ℕ) → round.problem ≡ p → round.network ≡ net → n ≡ last_node round.network (shipment_at round.problem k).to → n ≡ last_node net (shipment_at p k).to
arrives round p net k n problem network is = is ∙ ap (λ (t : TimedNetwork). last_node t (shipment_at round.problem k).to) network ∙ ap (λ (q : Problem). last_node net (shipment_at q k).to) problem

pub returns-then-is_empty : goal.returns-then-is_empty
returns-then-is_empty c =
    let leaf : LeafModel = c.args.by_spans.now.pricing.now.leaf in
    let p : Problem = leaf.setting.problem in
    let net : TimedNetwork = leaf.setting.network in
    let k : ℕ = c.args.shipment in
    let spans : List ClassSpan = c.args.by_spans.now.spans.now in
    let problem : c.round-round.result.now.problem ≡ p = c.round-round.ensures.problem ∙ ap (λ (l : LeafModel). l.setting.problem) c.leaf-leaf.ensures in
    let network : c.round-round.result.now.network ≡ net = c.round-round.ensures.network ∙ ap (λ (l : LeafModel). l.setting.network) c.leaf-leaf.ensures in
    let start : c.start-start.result ≡ first_node net (shipment_at p k).from = begins c.round-round.result.now p net k c.start-start.result problem network c.start-start.ensures.node in
    let end : c.end-end.result ≡ last_node net (shipment_at p k).to = arrives c.round-round.result.now p net k c.end-end.result problem network c.end-end.ensures.node in
    let none : length spans ≡ 0 = eqb-true (length spans) 0 (sym c.is_empty.ensures ∙ c.if-is_empty.true) in
    let graph : c.graph.result.now ≡ shape_by p net (heads_at leaf spans k) =
    c.graph.ensures ∙ ap (λ (q : Problem). shape_of q c.round-round.result.now.network) problem ∙ ap (λ (n : TimedNetwork). shape_of p n) network
    ∙ ap (λ (heads : Leg → ℕ). shape_by p net heads) (sym (heads-without p (windows_in leaf.setting.windows) (points_in net) spans k none)) in
    over (λ v. v.items) p net (heads_at leaf spans k) k c.args.costs.now c.graph.result.now c.start-start.result c.end-end.result graph start end
    c.through_edges.result c.through_edges.ensures.len c.through_edges.ensures.exact c.through_edges.ensures.small

-- where a list isn't empty it has something
some-in : (spans : List ClassSpan) → (length spans == 0) ≡ false → 0 < length spans
some-in [] is = absurd (false≢true (sym is))
some-in (span ∷ spans) is = omega arith

pub returns : goal.returns
returns c =
    let leaf : LeafModel = c.args.by_spans.now.pricing.now.leaf in
    let p : Problem = leaf.setting.problem in
    let net : TimedNetwork = leaf.setting.network in
    let k : ℕ = c.args.shipment in
    let spans : List ClassSpan = c.args.by_spans.now.spans.now in
    let problem : c.round-round.result.now.problem ≡ p = c.round-round.ensures.problem ∙ ap (λ (l : LeafModel). l.setting.problem) c.leaf-leaf.ensures in
    let network : c.round-round.result.now.network ≡ net = c.round-round.ensures.network ∙ ap (λ (l : LeafModel). l.setting.network) c.leaf-leaf.ensures in
    let start : c.start-start.result ≡ first_node net (shipment_at p k).from = begins c.round-round.result.now p net k c.start-start.result problem network c.start-start.ensures.node in
    let end : c.end-end.result ≡ last_node net (shipment_at p k).to = arrives c.round-round.result.now p net k c.end-end.result problem network c.end-end.ensures.node in
    let within : LeafModel → Leg → ℕ = λ l. heads_within l.setting.problem (windows_in l.setting.windows) (points_in l.setting.network) k in
    let some : 0 < length spans = some-in spans (sym c.is_empty.ensures ∙ c.if-is_empty.false) in
    let graph : c.in_ok-graph.graph ≡ shape_by p net (heads_at leaf spans k) =
    c.in_ok-graph.ensures ∙ ap (λ (l : LeafModel). shape_by l.setting.problem l.setting.network (within l)) c.leaf-leaf.ensures
    ∙ ap (λ (heads : Leg → ℕ). shape_by p net heads) (sym (heads-with p (windows_in leaf.setting.windows) (points_in net) spans k some)) in
    over (λ v. v.items) p net (heads_at leaf spans k) k c.args.costs.now c.in_ok-graph.graph c.start-start.result c.end-end.result graph start end
    c.through_edges-2.result c.through_edges-2.ensures.len c.through_edges-2.ensures.exact c.through_edges-2.ensures.small
