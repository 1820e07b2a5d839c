use Rattle.std.proofs.Common.{◌≡◌, ℕ, ◌+◌, ◌*◌, ◌^◌, ◌<◌, ◌≤◌, true, false, List, [], ◌∷◌, length, get_or, ⊎_elim, refl, sym, ap, ◌∙◌, subst, arith}
use Rattle.std.specs.Prelude.{All, Err, IfOk, IfSome, None, Ok, Option, Result, ◌==◌}
use Rattle.std.specs.declared.alloc.AllocError.{AllocError}
use Rattle.std.proofs.Math.Nat.{mul-le-mul_left, mul-le-mul_right}
use Rattle.std.proofs.lemmas.Bool.{cases_Bool, cond-false, cond-true, eq-eqb, eqb-true, false≢true}
use Rattle.fp_model.specs.declared.parts.Leg.{Leg}
use Rattle.fp_model.specs.Numbered.{shipment_at}
use Rattle.fp_model.specs.Problem.{IsValid, Problem}
use Rattle.fp_timenodes.specs.declared.places.TheConstants.{MOST_POINTS}
use Rattle.fp_flatnet.specs.Tables.{windows_in}
use Rattle.fp_longestarcs.specs.Networks.{TimedNetwork, class_count, point_count}
use Rattle.fp_longestarcs.specs.Whole.{IsWholeNetwork}
use Rattle.fp_tree.specs.declared.sides.Side.{Side}
use Rattle.fp_prices.specs.ClassCosts.{IsFree}
use Rattle.fp_prices.specs.LeafPricings.{AreChainsOf, PricingModel, allowed_at}
use Rattle.fp_prices.specs.Points.{AreHeads, edges_of, last_node}
use Rattle.fp_prices.specs.Rounds.{LeafModel}
use Rattle.fp_prices.proofs.GraphWalks.{AreCosts}
use Rattle.fp_prices.proofs.OriginLabels.{AreEnds, are-ends, cost-least_by, cost-small_by}
use Rattle.fp_prices.proofs.PointEdges.{length-edges}
use Rattle.fp_prices.proofs.ShipmentCosts.{most_of}
use Rattle.fp_prices_spans.specs.SpanCosts.{AreSpanCostsOf, IsLeastBySpans, IsSmallBySpans, heads_at, most_layers, own_weights, span_prices_at, ways_at}
use Rattle.fp_prices_spans.specs.Spans.{ClassSpan}
use Rattle.fp_prices_spans.specs.TaggedEdges.{IsDistanceVia}
use Rattle.fp_prices_spans.specs.Ways.{IsLeastVia, leaf_ways, ways_fit}
use Rattle.fp_prices_spans.proofs.LeafHeads.{are-leaf_heads}
use Rattle.fp_prices_spans.proofs.LeafWays.{layers-most, least-none, ways-few}
use Rattle.fp_prices_spans.proofs.SpanCosts.{costs-at_most, costs-for, costs-small, small-by_points}
use Rattle.fp_prices_spans.proofs.TaggedEdges.{least-tagged}
use Rattle.fp_prices_spans.proofs.values.span_costs.least_cost.Goals as goal
use Rattle.fp_prices_spans.proofs.values.span_costs.least_cost.Goals.{After-drop-ways-2}
use Rattle.std.specs.Vec as Vec

pub fill_costs-requires-clause-room : goal.fill_costs-requires-clause-room
fill_costs-requires-clause-room c = omega (arith, c.requires.edges, length-edges c.args.by_spans.now.pricing.now.leaf.setting.problem c.args.by_spans.now.pricing.now.leaf.setting.network)

-- the points of one layer fit
one-layer : (p : Problem) (nodes : ℕ) → nodes ≤ MOST_POINTS → nodes ≤ most_layers p * MOST_POINTS
one-layer p nodes few = ⊎_elim (λ (yes : ways_fit p ≡ true). omega (arith, few, cond-true {A = ℕ} (ways_fit p) 16 1 yes)) (λ (unfit : ways_fit p ≡ false). omega (arith, few, cond-false {A = ℕ} (ways_fit p) 16 1 unfit)) (cases_Bool (ways_fit p))

-- and those of the layers by a leaf's ways
all-layers : (p : Problem) (sides : List Side) (spans : List ClassSpan) (k : ℕ) (ways : List ℕ) (nodes : ℕ) → ways ≡ leaf_ways p sides spans k → nodes ≤ MOST_POINTS → 2 ^ length ways * nodes ≤ most_layers p * MOST_POINTS
all-layers p sides spans k ways nodes are few =
    let layers : 2 ^ length ways ≤ most_layers p = subst (λ (l : List ℕ). 2 ^ length l ≤ most_layers p) (sym are) (layers-most p sides spans k) in
    omega (arith, mul-le-mul_right nodes layers, mul-le-mul_left (most_layers p) few)

-- a list that isn't empty has some, and an empty one has none
some-of : (ways : List ℕ) (n : ℕ) → length ways ≡ n → (n == 0) ≡ false → 0 < length ways
some-of [] n long is = absurd (false≢true (sym is ∙ eq-eqb n 0 (sym long)))
some-of (a ∷ ways) n long is = omega arith

none-of : (ways : List ℕ) (n : ℕ) → length ways ≡ n → (n == 0) ≡ true → ways ≡ []
none-of [] n long is = refl
none-of (a ∷ ways) n long is = absurd (omega (arith, long, eqb-true n 0 is))

pub labels-requires-clause-small : goal.labels-requires-clause-small
labels-requires-clause-small c =
    let m : PricingModel = c.args.by_spans.now.pricing.now in
    let spans : List ClassSpan = c.args.by_spans.now.spans.now in
    let chains : List (List Leg) = c.requires.by_spans.chains.0 in
    costs-small m spans chains c.fill_costs.ensures.valid c.requires.by_spans.keep c.requires.by_spans.spans c.args.shipment c.requires.shipment c.fill_costs.new.costs
    (costs-for m spans c.args.shipment c.args.costs.now c.fill_costs.new.costs chains c.fill_costs.ensures.valid c.fill_costs.ensures.whole c.fill_costs.auto.costs c.requires.edges c.fill_costs.ensures.others c.requires.free c.requires.by_spans.chains.1 c.fill_costs.ensures.costs)
    (point_count m.leaf.setting.network) (omega (arith, one-layer m.leaf.setting.problem (point_count m.leaf.setting.network) c.fill_costs.ensures.few))

pub least_via-requires-clause-small : goal.least_via-requires-clause-small
least_via-requires-clause-small c =
    let m : PricingModel = c.args.by_spans.now.pricing.now in
    let spans : List ClassSpan = c.args.by_spans.now.spans.now in
    let chains : List (List Leg) = c.requires.by_spans.chains.0 in
    let ways : c.deref.result.now ≡ ways_at m.leaf spans c.args.shipment = c.deref.ensures.value ∙ c.in_ok-ways.ensures in
    costs-small m spans chains c.fill_costs.ensures.valid c.requires.by_spans.keep c.requires.by_spans.spans c.args.shipment c.requires.shipment c.fill_costs.new.costs
    (costs-for m spans c.args.shipment c.args.costs.now c.fill_costs.new.costs chains c.fill_costs.ensures.valid c.fill_costs.ensures.whole c.fill_costs.auto.costs c.requires.edges c.fill_costs.ensures.others c.requires.free c.requires.by_spans.chains.1 c.fill_costs.ensures.costs)
    (2 ^ length c.deref.result.now * point_count m.leaf.setting.network)
    (all-layers m.leaf.setting.problem m.leaf.sides spans c.args.shipment c.deref.result.now (point_count m.leaf.setting.network) ways c.fill_costs.ensures.few)

pub least_via-requires-clause-few : goal.least_via-requires-clause-few
least_via-requires-clause-few c =
    let m : PricingModel = c.args.by_spans.now.pricing.now in
    let ways : c.deref.result.now ≡ ways_at m.leaf c.args.by_spans.now.spans.now c.args.shipment = c.deref.ensures.value ∙ c.in_ok-ways.ensures in
    omega (arith, ap (λ (l : List ℕ). length l) ways, ways-few m.leaf.setting.problem m.leaf.sides c.args.by_spans.now.spans.now c.args.shipment)

-- the distance by the ways of a leaf, if there are some, is the least cost by spans
least-found : (m : PricingModel) (spans : List ClassSpan) (k : ℕ) (ways : List ℕ) (costs : List (Option ℕ)) → IsValid m.leaf.setting.problem → IsWholeNetwork m.leaf.setting.problem m.leaf.setting.network → k < length m.leaf.setting.problem.shipments →
    0 < length ways → ways ≡ ways_at m.leaf spans k →
    ((chains : List (List Leg)) → AreChainsOf m.leaf m.forced chains → AreCosts m.leaf.setting.problem m.leaf.setting.network (allowed_at m.leaf k) (span_prices_at m spans chains k) (shipment_at m.leaf.setting.problem k).size costs) →
    (r : Result (Option ℕ) AllocError) → IfOk r (IsDistanceVia m.leaf ways k costs) → IfOk r (IsLeastBySpans m spans k)
least-found m spans k ways costs valid whole exists some are are_costs (Err e) found = tt
least-found m [] k ways costs valid whole exists some are are_costs (Ok cost) found = absurd (omega (arith, some, ap (λ (l : List ℕ). length l) are))
least-found m (span ∷ spans) k ways costs valid whole exists some are are_costs (Ok cost) found = λ chains are_chains.
    let p : Problem = m.leaf.setting.problem in
    let net : TimedNetwork = m.leaf.setting.network in
    let own = are_costs chains are_chains in
    let ends : AreEnds net (shipment_at p k) = are-ends p net k valid whole exists in
    subst (λ (l : List ℕ). IsLeastVia p (heads_at m.leaf (span ∷ spans) k) l (allowed_at m.leaf k) (shipment_at p k) (span_prices_at m (span ∷ spans) chains k) cost) are
    (least-tagged p net (heads_at m.leaf (span ∷ spans) k) (allowed_at m.leaf k) (span_prices_at m (span ∷ spans) chains k) costs (shipment_at p k) (length costs) found.tags ways own
    (are-leaf_heads p net (windows_in m.leaf.setting.windows) (span ∷ spans) k valid whole) ends.from ends.to found.are (omega (arith, own.count, length-edges p net)) cost found.is)

pub returns-then-not-is_empty-clause-exact : goal.returns-then-not-is_empty-clause-exact
returns-then-not-is_empty-clause-exact c =
    let m : PricingModel = c.args.by_spans.now.pricing.now in
    let spans : List ClassSpan = c.args.by_spans.now.spans.now in
    least-found m spans c.args.shipment c.deref.result.now c.fill_costs.new.costs c.fill_costs.ensures.valid c.fill_costs.ensures.whole c.requires.shipment
    (some-of c.deref.result.now (Vec.vec_len c.in_ok-ways.ways) c.deref.ensures.len (sym (c.if-not-is_empty.ensures)))
    (c.deref.ensures.value ∙ c.in_ok-ways.ensures)
    (λ chains are.
    costs-for m spans c.args.shipment c.args.costs.now c.fill_costs.new.costs chains c.fill_costs.ensures.valid c.fill_costs.ensures.whole c.fill_costs.auto.costs c.requires.edges c.fill_costs.ensures.others c.requires.free are c.fill_costs.ensures.costs)
    c.least_via.result c.least_via.ensures.exact

-- a distance that is small for each point of each layer is small by spans
small-found : (p : Problem) (spans : List ClassSpan) (k nodes most : ℕ) → most ≡ most_of p k + own_weights spans k → nodes ≤ most_layers p * MOST_POINTS → (r : Result (Option ℕ) AllocError) → IfOk r (λ cost. IfSome cost (λ n. n ≤ nodes * most)) →
    IfOk r (IsSmallBySpans p spans k)
small-found p spans k nodes most is few (Err e) found = tt
small-found p spans k nodes most is few (Ok cost) found = small-by_points p spans k nodes cost few (subst (λ (n : ℕ). IfSome cost (λ (m : ℕ). m ≤ nodes * n)) is found)

-- with the greatest cost of an edge
at-most : (r : Result (Option ℕ) AllocError) (costs : List (Option ℕ)) (nodes most : ℕ) → All (λ o. IfSome o (λ (n : ℕ). n ≤ most)) costs →
    IfOk r (λ cost. (m : ℕ) → All (λ o. IfSome o (λ (n : ℕ). n ≤ m)) costs → IfSome cost (λ n. n ≤ nodes * m)) → IfOk r (λ cost. IfSome cost (λ n. n ≤ nodes * most))
at-most (Err e) costs nodes most all found = tt
at-most (Ok cost) costs nodes most all found = found most all

pub returns-then-not-is_empty-clause-small : goal.returns-then-not-is_empty-clause-small
returns-then-not-is_empty-clause-small c =
    let m : PricingModel = c.args.by_spans.now.pricing.now in
    let spans : List ClassSpan = c.args.by_spans.now.spans.now in
    let p : Problem = m.leaf.setting.problem in
    let k : ℕ = c.args.shipment in
    let costs : List (Option ℕ) = c.fill_costs.new.costs in
    let chains : List (List Leg) = c.requires.by_spans.chains.0 in
    let nodes : ℕ = 2 ^ length c.deref.result.now * point_count m.leaf.setting.network in
    let ways : c.deref.result.now ≡ ways_at m.leaf spans k = c.deref.ensures.value ∙ c.in_ok-ways.ensures in
    let all : All (λ o. IfSome o (λ (n : ℕ). n ≤ most_of p k + own_weights spans k)) costs =
    costs-at_most m spans chains c.fill_costs.ensures.valid c.requires.by_spans.keep c.requires.by_spans.spans k c.requires.shipment costs
    (costs-for m spans k c.args.costs.now costs chains c.fill_costs.ensures.valid c.fill_costs.ensures.whole c.fill_costs.auto.costs c.requires.edges c.fill_costs.ensures.others c.requires.free c.requires.by_spans.chains.1 c.fill_costs.ensures.costs) in
    small-found p spans k nodes (most_of p k + own_weights spans k) refl (all-layers p m.leaf.sides spans k c.deref.result.now (point_count m.leaf.setting.network) ways c.fill_costs.ensures.few) c.least_via.result
    (at-most c.least_via.result costs nodes (most_of p k + own_weights spans k) all c.least_via.ensures.small)

problem : (c : After-drop-ways-2) → c.round-round.result.now.problem ≡ c.args.by_spans.now.pricing.now.leaf.setting.problem
problem c = c.round-round.ensures.problem ∙ ap (λ (l : LeafModel). l.setting.problem) c.leaf.ensures

network : (c : After-drop-ways-2) → c.round-round.result.now.network ≡ c.args.by_spans.now.pricing.now.leaf.setting.network
network c = c.round-round.ensures.network ∙ ap (λ (l : LeafModel). l.setting.network) c.leaf.ensures

are-costs : (c : After-drop-ways-2) (chains : List (List Leg)) → AreChainsOf c.args.by_spans.now.pricing.now.leaf c.args.by_spans.now.pricing.now.forced chains →
    AreCosts c.args.by_spans.now.pricing.now.leaf.setting.problem c.args.by_spans.now.pricing.now.leaf.setting.network (allowed_at c.args.by_spans.now.pricing.now.leaf c.args.shipment)
    (span_prices_at c.args.by_spans.now.pricing.now c.args.by_spans.now.spans.now chains c.args.shipment) (shipment_at c.args.by_spans.now.pricing.now.leaf.setting.problem c.args.shipment).size c.fill_costs.new.costs
are-costs c chains are =
    costs-for c.args.by_spans.now.pricing.now c.args.by_spans.now.spans.now c.args.shipment c.args.costs.now c.fill_costs.new.costs chains c.fill_costs.ensures.valid c.fill_costs.ensures.whole c.fill_costs.auto.costs c.requires.edges
    c.fill_costs.ensures.others c.requires.free are c.fill_costs.ensures.costs

are-heads : (c : After-drop-ways-2) →
    AreHeads c.args.by_spans.now.pricing.now.leaf.setting.problem c.args.by_spans.now.pricing.now.leaf.setting.network (heads_at c.args.by_spans.now.pricing.now.leaf c.args.by_spans.now.spans.now c.args.shipment)
are-heads c =
    let leaf : LeafModel = c.args.by_spans.now.pricing.now.leaf in
    are-leaf_heads leaf.setting.problem leaf.setting.network (windows_in leaf.setting.windows) c.args.by_spans.now.spans.now c.args.shipment c.fill_costs.ensures.valid c.fill_costs.ensures.whole

end-is : (c : After-drop-ways-2) → c.end.result ≡ last_node c.args.by_spans.now.pricing.now.leaf.setting.network (shipment_at c.args.by_spans.now.pricing.now.leaf.setting.problem c.args.shipment).to
end-is c =
    c.end.ensures.node ∙ ap (λ (n : TimedNetwork). last_node n (shipment_at c.round-round.result.now.problem c.args.shipment).to) (network c)
    ∙ ap (λ (q : Problem). last_node c.args.by_spans.now.pricing.now.leaf.setting.network (shipment_at q c.args.shipment).to) (problem c)

pub returns-clause-exact : goal.returns-clause-exact
returns-clause-exact c = λ chains are.
    let m : PricingModel = c.args.by_spans.now.pricing.now in
    let spans : List ClassSpan = c.args.by_spans.now.spans.now in
    let p : Problem = m.leaf.setting.problem in
    let k : ℕ = c.args.shipment in
    let none : ways_at m.leaf spans k ≡ [] = sym c.in_ok-ways.ensures ∙ none-of c.in_ok-ways.ways.items (Vec.vec_len c.in_ok-ways.ways) (sym c.in_ok-ways.ways.ok.0) (sym (c.if-not-is_empty.ensures)) in
    subst (λ (l : List ℕ). IsLeastVia p (heads_at m.leaf spans k) l (allowed_at m.leaf k) (shipment_at p k) (span_prices_at m spans chains k) c.to.result) (sym none)
    (least-none p (heads_at m.leaf spans k) (allowed_at m.leaf k) (shipment_at p k) (span_prices_at m spans chains k) c.to.result
    (cost-least_by p m.leaf.setting.network (heads_at m.leaf spans k) k c.fill_costs.new.costs c.in_ok-found.found c.fill_costs.ensures.valid
    c.fill_costs.ensures.whole (are-heads c) c.requires.shipment c.in_ok-found.ensures c.end.result (end-is c)
    (allowed_at m.leaf k) (span_prices_at m spans chains k) (are-costs c chains are) c.to.result c.to.ensures.label))

pub returns-clause-small : goal.returns-clause-small
returns-clause-small c =
    let m : PricingModel = c.args.by_spans.now.pricing.now in
    let spans : List ClassSpan = c.args.by_spans.now.spans.now in
    let p : Problem = m.leaf.setting.problem in
    let net : TimedNetwork = m.leaf.setting.network in
    let k : ℕ = c.args.shipment in
    let costs : List (Option ℕ) = c.fill_costs.new.costs in
    let chains : List (List Leg) = c.requires.by_spans.chains.0 in
    small-by_points p spans k (point_count net) c.to.result (one-layer p (point_count net) c.fill_costs.ensures.few)
    (cost-small_by p net (heads_at m.leaf spans k) k costs c.in_ok-found.found c.fill_costs.ensures.valid c.fill_costs.ensures.whole (are-heads c) c.requires.shipment c.in_ok-found.ensures
    c.end.result (end-is c) (most_of p k + own_weights spans k)
    (costs-at_most m spans chains c.fill_costs.ensures.valid c.requires.by_spans.keep c.requires.by_spans.spans k c.requires.shipment costs (are-costs c chains c.requires.by_spans.chains.1)) c.to.result c.to.ensures.label)
