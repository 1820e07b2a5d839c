use Rattle.std.proofs.Common.{◌≡◌, ℕ, suc, ◌+◌, ◌*◌, ◌<◌, ◌≤◌, List, ap, ◌∙◌, subst, arith}
use Rattle.std.proofs.Math.Nat.{mul-le-mul_left}
use Rattle.fp_base_lists.specs.Below.{sum_below}
use Rattle.fp_model.specs.declared.parts.Leg.{Leg}
use Rattle.fp_model.specs.Costs.{all_legs, departures_cost}
use Rattle.fp_model.specs.Problem.{IsValid, Problem, alone_total}
use Rattle.fp_longestarcs.specs.Networks.{TimedNetwork, class_count}
use Rattle.fp_longestarcs.specs.Whole.{IsWholeNetwork}
use Rattle.fp_prices.specs.LeafPricings.{AreChainsOf}
use Rattle.fp_prices.specs.Rounds.{LeafModel, RoundModel}
use Rattle.fp_prices_spans.specs.SpanCosts.{base_of}
use Rattle.fp_prices_spans.proofs.LeafBases.{bases-fit, bases-least, bases-sum}
use Rattle.fp_prices_spans.proofs.values.leaf_bases.bases.Goals as goal

-- the network of a leaf's round is whole for the leaf's instance
whole-at : (leaf there : LeafModel) (round : RoundModel) → round.problem ≡ there.setting.problem → round.network ≡ there.setting.network → there ≡ leaf → IsWholeNetwork round.problem round.network →
    IsWholeNetwork leaf.setting.problem leaf.setting.network
whole-at leaf there round problem network same whole =
    subst (λ (p : Problem). IsWholeNetwork p leaf.setting.network) (problem ∙ ap (λ (l : LeafModel). l.setting.problem) same)
    (subst (λ (n : TimedNetwork). IsWholeNetwork round.problem n) (network ∙ ap (λ (l : LeafModel). l.setting.network) same) whole)

pub loop-class-init : goal.loop-class-init
loop-class-init c = λ chains are. omega arith

pub class_base-total-requires-clause-whole : goal.class_base-total-requires-clause-whole
class_base-total-requires-clause-whole c =
    whole-at c.args.pricing.now.leaf c.leaf.result.now c.round-round.result.now c.round-round.ensures.problem c.round-round.ensures.network c.leaf.ensures c.network.ensures.whole

pub overflow_add-total : goal.overflow_add-total
overflow_add-total c =
    let leaf : LeafModel = c.args.pricing.now.leaf in
    let p : Problem = leaf.setting.problem in
    let net : TimedNetwork = leaf.setting.network in
    let chains : List (List Leg) = c.requires.0 in
    let class : ℕ = c.loop-class.class in
    let whole : IsWholeNetwork p net = whole-at leaf c.leaf.result.now c.round-round.result.now c.round-round.ensures.problem c.round-round.ensures.network c.leaf.ensures c.network.ensures.whole in
    let valid : IsValid p = subst IsValid (c.round-round.ensures.problem ∙ ap (λ (l : LeafModel). l.setting.problem) c.leaf.ensures) c.instance.ensures.valid in
    let same : c.network.result.now ≡ net = c.network.ensures.same ∙ c.round-round.ensures.network ∙ ap (λ (l : LeafModel). l.setting.network) c.leaf.ensures in
    let within : class < class_count net = omega (arith, c.classes-class-end.ensures.count, ap (λ (n : TimedNetwork). class_count n) same) in
    omega (arith, bases-fit leaf c.args.pricing.now.forced chains whole c.requires.1 valid class within, c.loop-class.invariant chains c.requires.1, c.class_base-total.ensures chains c.requires.1)

pub loop-class-preserved : goal.loop-class-preserved
loop-class-preserved c = λ chains are.
    let p : Problem = c.args.pricing.now.leaf.setting.problem in
    let base : ℕ → ℕ = base_of p c.args.pricing.now.leaf.setting.network chains in
    let class : ℕ = c.loop-class.class in
    let next : class + 1 ≡ suc class = omega arith in
    let more : p.scale * sum_below (class + 1) base ≡ p.scale * (base class + sum_below class base) = ap (λ (n : ℕ). p.scale * sum_below n base) next in
    let parts : p.scale * (base class + sum_below class base) ≡ p.scale * base class + p.scale * sum_below class base = omega arith in
    omega (arith, more, parts, c.loop-class.invariant chains are, c.class_base-total.ensures chains are)

pub returns : goal.returns
returns c =
    let leaf : LeafModel = c.args.pricing.now.leaf in
    let p : Problem = leaf.setting.problem in
    let net : TimedNetwork = leaf.setting.network in
    let whole : IsWholeNetwork p net = whole-at leaf c.leaf.result.now c.round-round.result.now c.round-round.ensures.problem c.round-round.ensures.network c.leaf.ensures c.network.ensures.whole in
    let same : c.network.result.now ≡ net = c.network.ensures.same ∙ c.round-round.ensures.network ∙ ap (λ (l : LeafModel). l.setting.network) c.leaf.ensures in
    let all : c.loop-class.class ≡ class_count net = omega (arith, c.classes-class-end.ensures.count, ap (λ (n : TimedNetwork). class_count n) same, c.loop-class.auto.class-end) in
    let least : p.scale * departures_cost p c.requires.0 (all_legs c.requires.0) ≤ p.scale * alone_total p.arcs p.shipments =
    mul-le-mul_left p.scale (bases-least leaf c.args.pricing.now.forced c.requires.0 whole c.requires.1) in
    let cost : (chains : List (List Leg)) → AreChainsOf leaf c.args.pricing.now.forced chains → c.loop-class.total ≡ p.scale * departures_cost p chains (all_legs chains) =
    λ chains are.
    c.loop-class.invariant chains are ∙ ap (λ (n : ℕ). p.scale * sum_below n (base_of p net chains)) all ∙ ap (λ (n : ℕ). p.scale * n) (bases-sum leaf c.args.pricing.now.forced chains whole are) in
    record { cost_so = cost; small = omega (arith, cost c.requires.0 c.requires.1, least) }
