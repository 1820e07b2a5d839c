use Rattle.std.proofs.Common.{◌≡◌, ℕ, ◌+◌, ◌-◌, ◌*◌, ◌^◌, ◌<◌, ◌≤◌, true, List, length, get_or, ap, subst, arith}
use Rattle.std.specs.Prelude.{All, Err, IfOk, IfSome, None, Ok, Option, Result}
use Rattle.std.specs.declared.alloc.AllocError.{AllocError}
use Rattle.std.proofs.Math.Nat.{mul-le-mul_left, mul-le-mul_right}
use Rattle.std.proofs.lemmas.Bool.{cond-true}
use Rattle.std.proofs.lemmas.List.Elements.{All-weaker}
use Rattle.std.proofs.lemmas.Option.{IfSome_then}
use Rattle.fp_labels.specs.Walks.{cost_of}
use Rattle.fp_model.specs.declared.parts.Leg.{Leg}
use Rattle.fp_model.specs.Numbered.{shipment_at}
use Rattle.fp_model.specs.Problem.{IsValid, Problem, alone_total}
use Rattle.fp_timenodes.specs.declared.places.TheConstants.{MOST_POINTS}
use Rattle.fp_flatnet.specs.Tables.{windows_in}
use Rattle.fp_longestarcs.specs.Networks.{TimedNetwork, class_count, point_count}
use Rattle.fp_longestarcs.specs.Whole.{IsWholeNetwork}
use Rattle.fp_prices.specs.ClassCosts.{IsFree}
use Rattle.fp_prices.specs.LeafPricings.{AreChainsOf, PricingModel, allowed_at}
use Rattle.fp_prices.specs.Points.{edges_of}
use Rattle.fp_prices.proofs.GraphWalks.{AreCosts}
use Rattle.fp_prices.proofs.OriginLabels.{AreEnds, are-ends}
use Rattle.fp_prices.proofs.PointEdges.{length-edges}
use Rattle.fp_prices.proofs.ShipmentCosts.{most_of}
use Rattle.fp_prices.proofs.SmallPrices.{shipment-alone}
use Rattle.fp_prices_spans.specs.SpanCosts.{AreSpanCostsOf, heads_at, most_layers, own_weights, span_prices_at}
use Rattle.fp_prices_spans.specs.SpanLists.{AreSpans}
use Rattle.fp_prices_spans.specs.Spans.{ClassSpan}
use Rattle.fp_prices_bars.specs.ThroughCosts.{AreThroughBySpans, AreThroughEdges, IsSmallThrough}
use Rattle.fp_prices_spans.specs.Ways.{ways_fit}
use Rattle.fp_prices_spans.proofs.LeafHeads.{are-leaf_heads}
use Rattle.fp_prices_spans.proofs.SpanCosts.{costs-at_most, costs-for, costs-small, layers-fit}
use Rattle.fp_prices_bars.proofs.ThroughEdges.{least-through}
use Rattle.fp_prices_spans.proofs.WeightTotals.{own-le}
use Rattle.fp_prices_bars.proofs.through_costs.through_costs.Goals as goal

pub fill_costs-requires-clause-room : goal.fill_costs-requires-clause-room
fill_costs-requires-clause-room c = omega (arith, c.requires.edges, length-edges c.args.by_spans.now.pricing.now.leaf.setting.problem c.args.by_spans.now.pricing.now.leaf.setting.network)

-- where sums fit over the layers there are sixteen of them
layers : (p : Problem) → ways_fit p ≡ true → most_layers p ≡ 16
layers p fits = cond-true (ways_fit p) 16 1 fits

-- what the edges cost, whatever the chains of the leaf
all-costs : (m : PricingModel) (spans : List ClassSpan) (k : ℕ) (old new : List (Option ℕ)) → IsValid m.leaf.setting.problem → IsWholeNetwork m.leaf.setting.problem m.leaf.setting.network →
    length new ≡ length old → length old ≡ length (edges_of m.leaf.setting.problem m.leaf.setting.network) → ((n : ℕ) → class_count m.leaf.setting.network ≤ n → get_or new n None ≡ get_or old n None) →
    IsFree (class_count m.leaf.setting.network) old → AreSpanCostsOf m spans k new → (chains : List (List Leg)) → AreChainsOf m.leaf m.forced chains →
    AreCosts m.leaf.setting.problem m.leaf.setting.network (allowed_at m.leaf k) (span_prices_at m spans chains k) (shipment_at m.leaf.setting.problem k).size new
all-costs m spans k old new valid whole long edges others free are chains are_chains = costs-for m spans k old new chains valid whole long edges others free are_chains are

pub costs_by_edges-requires-clause-small : goal.costs_by_edges-requires-clause-small
costs_by_edges-requires-clause-small c =
    let m : PricingModel = c.args.by_spans.now.pricing.now in
    let spans : List ClassSpan = c.args.by_spans.now.spans.now in
    costs-small m spans c.requires.by_spans.chains.0 c.fill_costs.ensures.valid c.requires.by_spans.keep c.requires.by_spans.spans c.args.shipment c.requires.shipment c.fill_costs.new.costs
    (all-costs m spans c.args.shipment c.args.costs.now c.fill_costs.new.costs c.fill_costs.ensures.valid c.fill_costs.ensures.whole c.fill_costs.auto.costs c.requires.edges c.fill_costs.ensures.others c.requires.free c.fill_costs.ensures.costs c.requires.by_spans.chains.0 c.requires.by_spans.chains.1) (2 * point_count m.leaf.setting.network)
    (omega (arith, c.fill_costs.ensures.few, ap (λ (n : ℕ). n * MOST_POINTS) (layers m.leaf.setting.problem c.requires.fits)))

-- what is found for each edge has something for each class
each-class : {X : Type 0} (items : X → List (Option ℕ)) (p : Problem) (net : TimedNetwork) (heads : Leg → ℕ) (k : ℕ) (costs : List (Option ℕ)) (r : Result X AllocError) →
    IfOk r (λ through. AreThroughEdges p net heads k costs (items through)) → IfOk r (λ through. class_count net ≤ length (items through))
each-class items p net heads k costs (Err e) found = tt
each-class items p net heads k costs (Ok through) found = omega (arith, found.len, length-edges p net)

pub returns-clause-len : goal.returns-clause-len
returns-clause-len c =
    let leaf = c.args.by_spans.now.pricing.now.leaf in
    each-class (λ v. v.items) leaf.setting.problem leaf.setting.network (heads_at leaf c.args.by_spans.now.spans.now c.args.shipment) c.args.shipment c.fill_costs.new.costs c.costs_by_edges.result c.costs_by_edges.ensures

-- and it is the least cost through the class
through-classes : {X : Type 0} (items : X → List (Option ℕ)) (m : PricingModel) (spans : List ClassSpan) (k : ℕ) (costs : List (Option ℕ)) → IsValid m.leaf.setting.problem → IsWholeNetwork m.leaf.setting.problem m.leaf.setting.network →
    k < length m.leaf.setting.problem.shipments →
    ((chains : List (List Leg)) → AreChainsOf m.leaf m.forced chains → AreCosts m.leaf.setting.problem m.leaf.setting.network (allowed_at m.leaf k) (span_prices_at m spans chains k) (shipment_at m.leaf.setting.problem k).size costs) →
    (r : Result X AllocError) → IfOk r (λ through. AreThroughEdges m.leaf.setting.problem m.leaf.setting.network (heads_at m.leaf spans k) k costs (items through)) →
    IfOk r (λ through. AreThroughBySpans m spans k (items through))
through-classes items m spans k costs valid whole exists are (Err e) found = tt
through-classes items m spans k costs valid whole exists are (Ok through) found = λ chains are_chains n class.
    let p : Problem = m.leaf.setting.problem in
    let net : TimedNetwork = m.leaf.setting.network in
    let ends : AreEnds net (shipment_at p k) = are-ends p net k valid whole exists in
    least-through p net (heads_at m.leaf spans k) (allowed_at m.leaf k) (span_prices_at m spans chains k) costs (shipment_at p k) (are chains are_chains)
    (are-leaf_heads p net (windows_in m.leaf.setting.windows) spans k valid whole) ends.from ends.to n class (cost_of (items through) n) (found.exact n (omega (arith, class, length-edges p net)))

pub returns-clause-exact : goal.returns-clause-exact
returns-clause-exact c =
    let m : PricingModel = c.args.by_spans.now.pricing.now in
    let spans : List ClassSpan = c.args.by_spans.now.spans.now in
    through-classes (λ v. v.items) m spans c.args.shipment c.fill_costs.new.costs c.fill_costs.ensures.valid c.fill_costs.ensures.whole c.requires.shipment (all-costs m spans c.args.shipment c.args.costs.now c.fill_costs.new.costs c.fill_costs.ensures.valid c.fill_costs.ensures.whole c.fill_costs.auto.costs c.requires.edges c.fill_costs.ensures.others c.requires.free c.fill_costs.ensures.costs)
    c.costs_by_edges.result c.costs_by_edges.ensures

-- and small
small-found : {X : Type 0} (items : X → List (Option ℕ)) (p : Problem) (net : TimedNetwork) (heads : Leg → ℕ) (spans : List ClassSpan) (k : ℕ) (costs : List (Option ℕ)) → IsValid p → AreSpans p spans → ways_fit p ≡ true → k < length p.shipments →
    point_count net ≤ MOST_POINTS → All (λ o. IfSome o (λ (n : ℕ). n ≤ most_of p k + own_weights spans k)) costs → (r : Result X AllocError) →
    IfOk r (λ through. AreThroughEdges p net heads k costs (items through)) → IfOk r (λ through. All IsSmallThrough (items through))
small-found items p net heads spans k costs valid are fits exists few all (Err e) found = tt
small-found items p net heads spans k costs valid are fits exists few all (Ok through) found =
    let most : ℕ = most_of p k + own_weights spans k in
    let alone : most_of p k ≤ p.scale * alone_total p.arcs p.shipments = mul-le-mul_left p.scale (shipment-alone p k exists) in
    let fit : most_layers p * MOST_POINTS * most ≤ 2 ^ 127 - 1 = layers-fit p most valid (omega (arith, alone, own-le spans k, are.light)) in
    let sixteen : 16 * MOST_POINTS * most ≤ 2 ^ 127 - 1 = subst (λ (n : ℕ). n * MOST_POINTS * most ≤ 2 ^ 127 - 1) (layers p fits) fit in
    let points : 2 * point_count net * most ≤ 2 * MOST_POINTS * most = mul-le-mul_right most (omega (arith, few)) in
    All-weaker (λ o. IfSome o (λ (n : ℕ). n ≤ 2 * point_count net * most)) IsSmallThrough (λ o small. IfSome_then o small (λ n below. omega (arith, below, points, sixteen))) (items through) (found.small most all)

pub returns-clause-small : goal.returns-clause-small
returns-clause-small c =
    let m : PricingModel = c.args.by_spans.now.pricing.now in
    let spans : List ClassSpan = c.args.by_spans.now.spans.now in
    small-found (λ v. v.items) m.leaf.setting.problem m.leaf.setting.network (heads_at m.leaf spans c.args.shipment) spans c.args.shipment c.fill_costs.new.costs c.fill_costs.ensures.valid c.requires.by_spans.spans c.requires.fits
    c.requires.shipment c.fill_costs.ensures.few
    (costs-at_most m spans c.requires.by_spans.chains.0 c.fill_costs.ensures.valid c.requires.by_spans.keep c.requires.by_spans.spans c.args.shipment c.requires.shipment c.fill_costs.new.costs
    (all-costs m spans c.args.shipment c.args.costs.now c.fill_costs.new.costs c.fill_costs.ensures.valid c.fill_costs.ensures.whole c.fill_costs.auto.costs c.requires.edges c.fill_costs.ensures.others c.requires.free c.fill_costs.ensures.costs c.requires.by_spans.chains.0 c.requires.by_spans.chains.1)) c.costs_by_edges.result c.costs_by_edges.ensures
