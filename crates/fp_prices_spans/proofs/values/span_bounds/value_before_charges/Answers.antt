use Rattle.std.proofs.Common.{◌≡◌, ℕ, ◌<◌, ◌++◌, List, length, drop, take, sym, ap, ◌∙◌, subst, arith}
use Rattle.std.specs.Prelude.{Option}
use Rattle.fp_model.specs.declared.parts.Shipment.{Shipment}
use Rattle.fp_model.specs.Problem.{IsValid, Problem}
use Rattle.fp_longestarcs.specs.Networks.{TimedNetwork, class_count}
use Rattle.fp_prices.specs.ClassCosts.{IsFree}
use Rattle.fp_prices.specs.Points.{edges_of}
use Rattle.fp_prices.specs.Rounds.{LeafModel}
use Rattle.fp_prices.proofs.SetBits.{whole_write}
use Rattle.fp_prices_spans.specs.SpanCosts.{IsLeastBySpans, IsSmallBySpans}
use Rattle.fp_prices_spans.proofs.SpanValues.{all-small, first-without, least-all, least-more, least-none, more-fits}
use Rattle.fp_prices_spans.proofs.values.span_bounds.value_before_charges.Goals as goal

pub loop-shipment-init : goal.loop-shipment-init
loop-shipment-init c =
    let m = c.args.by_spans.now.pricing.now in
    let p : Problem = m.leaf.setting.problem in
    let net : TimedNetwork = m.leaf.setting.network in
    let problem : c.round-round.result.now.problem ≡ p = c.round-round.ensures.problem ∙ ap (λ (l : LeafModel). l.setting.problem) c.leaf.ensures in
    let network : c.round-round.result.now.network ≡ net = c.round-round.ensures.network ∙ ap (λ (l : LeafModel). l.setting.network) c.leaf.ensures in
    record {
      so_far = least-none m c.args.by_spans.now.spans.now c.args.bases;
      long = omega (arith, c.in_ok-prices.ensures.len, c.classes.ensures.count, ap (λ (n : TimedNetwork). class_count n) (c.network.ensures.same ∙ network));
      edges = c.in_ok-costs.ensures.count ∙ ap (λ (q : Problem). length (edges_of q c.round-round.result.now.network)) problem ∙ ap (λ (n : TimedNetwork). length (edges_of p n)) network;
      free = λ e from h. c.in_ok-costs.ensures.free e (omega arith) h;
    }

pub overflow_add-value : goal.overflow_add-value
overflow_add-value c =
    let m = c.args.by_spans.now.pricing.now in
    let p : Problem = m.leaf.setting.problem in
    let i : ℕ = c.loop-shipment.shipment in
    let instance : c.instance.result.now ≡ p = c.instance.ensures.same ∙ c.round-round.ensures.problem ∙ ap (λ (l : LeafModel). l.setting.problem) c.leaf.ensures in
    let exists : i < length p.shipments = omega (arith, ap (λ (l : List Shipment). length l) c.shipments.ensures.same, ap (λ (q : Problem). length q.shipments) instance) in
    let valid : IsValid p = subst IsValid instance c.shipments.ensures.valid in
    omega (arith, more-fits m c.args.by_spans.now.spans.now c.args.bases i c.loop-shipment.value exists c.loop-shipment.invariant.so_far c.in-Some.cost valid c.requires.by_spans.spans.light c.requires.bases (subst (IsSmallBySpans p c.args.by_spans.now.spans.now i) c.in-Some.is c.in_ok-cost.ensures.small))

pub loop-shipment-preserved : goal.loop-shipment-preserved
loop-shipment-preserved c =
    let m = c.args.by_spans.now.pricing.now in
    let p : Problem = m.leaf.setting.problem in
    let i : ℕ = c.loop-shipment.shipment in
    let instance : c.instance.result.now ≡ p = c.instance.ensures.same ∙ c.round-round.ensures.problem ∙ ap (λ (l : LeafModel). l.setting.problem) c.leaf.ensures in
    let exists : i < length p.shipments = omega (arith, ap (λ (l : List Shipment). length l) c.shipments.ensures.same, ap (λ (q : Problem). length q.shipments) instance) in
    let prices : List ℕ = c.least_cost.new.prices in
    let costs : List (Option ℕ) = c.least_cost.new.costs in
    let prices_long : length prices ≡ length c.loop-shipment.prices.items = c.least_cost.auto.prices ∙ ap (λ (l : List ℕ). length l) c.deref_mut.ensures.value in
    let costs_long : length costs ≡ length c.loop-shipment.costs.items = c.least_cost.auto.costs ∙ ap (λ (l : List (Option ℕ)). length l) c.deref_mut-in-loop-shipment.ensures.value in
    let prices_written : take c.loop-shipment.prices.len (prices ++ drop (length prices) c.loop-shipment.prices.items) ≡ prices =
    whole_write c.loop-shipment.prices.len prices (drop (length prices) c.loop-shipment.prices.items) (omega (arith, c.loop-shipment.prices.ok, prices_long)) in
    let costs_written : take c.loop-shipment.costs.len (costs ++ drop (length costs) c.loop-shipment.costs.items) ≡ costs =
    whole_write c.loop-shipment.costs.len costs (drop (length costs) c.loop-shipment.costs.items) (omega (arith, c.loop-shipment.costs.ok, costs_long)) in
    record {
      so_far = least-more m c.args.by_spans.now.spans.now c.args.bases i c.loop-shipment.value exists c.loop-shipment.invariant.so_far c.in-Some.cost (subst (IsLeastBySpans m c.args.by_spans.now.spans.now i) c.in-Some.is c.in_ok-cost.ensures.exact)
          (subst (IsSmallBySpans p c.args.by_spans.now.spans.now i) c.in-Some.is c.in_ok-cost.ensures.small);
      long = ap (λ (l : List ℕ). length l) prices_written ∙ prices_long ∙ c.loop-shipment.invariant.long;
      edges = ap (λ (l : List (Option ℕ)). length l) costs_written ∙ costs_long ∙ c.loop-shipment.invariant.edges;
      free = subst (IsFree (class_count m.leaf.setting.network)) (sym costs_written) c.in_ok-cost.ensures.free;
    }

pub returns-in-None-clause-valid : goal.returns-in-None-clause-valid
returns-in-None-clause-valid c = subst IsValid (c.instance.ensures.same ∙ c.round-round.ensures.problem ∙ ap (λ (l : LeafModel). l.setting.problem) c.leaf.ensures) c.shipments.ensures.valid

pub returns-in-None-clause-exact : goal.returns-in-None-clause-exact
returns-in-None-clause-exact c =
    let m = c.args.by_spans.now.pricing.now in
    let p : Problem = m.leaf.setting.problem in
    let i : ℕ = c.loop-shipment.shipment in
    let instance : c.instance.result.now ≡ p = c.instance.ensures.same ∙ c.round-round.ensures.problem ∙ ap (λ (l : LeafModel). l.setting.problem) c.leaf.ensures in
    let exists : i < length p.shipments = omega (arith, ap (λ (l : List Shipment). length l) c.shipments.ensures.same, ap (λ (q : Problem). length q.shipments) instance) in
    first-without m c.args.by_spans.now.spans.now c.args.bases i c.loop-shipment.value exists c.loop-shipment.invariant.so_far c.requires.by_spans.chains (subst (IsLeastBySpans m c.args.by_spans.now.spans.now i) c.in-None.is c.in_ok-cost.ensures.exact)

pub returns-clause-valid : goal.returns-clause-valid
returns-clause-valid c = subst IsValid (c.instance.ensures.same ∙ c.round-round.ensures.problem ∙ ap (λ (l : LeafModel). l.setting.problem) c.leaf.ensures) c.shipments.ensures.valid

pub returns-clause-exact : goal.returns-clause-exact
returns-clause-exact c =
    let m = c.args.by_spans.now.pricing.now in
    let p : Problem = m.leaf.setting.problem in
    let instance : c.instance.result.now ≡ p = c.instance.ensures.same ∙ c.round-round.ensures.problem ∙ ap (λ (l : LeafModel). l.setting.problem) c.leaf.ensures in
    least-all m c.args.by_spans.now.spans.now c.args.bases c.loop-shipment.shipment c.loop-shipment.value
    (omega (arith, ap (λ (l : List Shipment). length l) c.shipments.ensures.same, ap (λ (q : Problem). length q.shipments) instance)) c.loop-shipment.invariant.so_far

pub returns-clause-small : goal.returns-clause-small
returns-clause-small c =
    let m = c.args.by_spans.now.pricing.now in
    let p : Problem = m.leaf.setting.problem in
    let instance : c.instance.result.now ≡ p = c.instance.ensures.same ∙ c.round-round.ensures.problem ∙ ap (λ (l : LeafModel). l.setting.problem) c.leaf.ensures in
    all-small m c.args.by_spans.now.spans.now c.args.bases c.loop-shipment.shipment c.loop-shipment.value
    (subst IsValid instance c.shipments.ensures.valid) c.requires.by_spans.spans.light c.requires.bases
    c.loop-shipment.invariant.so_far
