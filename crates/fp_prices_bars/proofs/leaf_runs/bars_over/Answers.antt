use Rattle.std.proofs.Common.{◌≡◌, ℕ, ◌-◌, ◌<◌, ◌++◌, Bool, true, List, [], length, drop, take, sym, ap, ◌∙◌, subst, arith}
use Rattle.std.specs.Prelude.{◌↔◌, All, Option}
use Rattle.fp_model.specs.declared.parts.Leg.{Leg}
use Rattle.fp_model.specs.declared.parts.Shipment.{Shipment}
use Rattle.fp_model.specs.Problem.{Problem}
use Rattle.fp_longestarcs.specs.Networks.{IsClass, TimedNetwork, class_count, class_number, points_in}
use Rattle.fp_longestarcs.specs.Whole.{IsWholeNetwork}
use Rattle.fp_tree.specs.declared.sides.Side.{Side}
use Rattle.fp_allowed.specs.Bits.{IsRowUnder}
use Rattle.fp_prices.specs.ClassCosts.{IsFree}
use Rattle.fp_prices.specs.Rounds.{LeafModel}
use Rattle.fp_prices.proofs.SetBits.{whole_write}
use Rattle.fp_prices_spans.specs.SpanBars.{AreBarsOf}
use Rattle.fp_prices_spans.specs.SpanCosts.{IsLeastBySpans}
use Rattle.fp_prices_bars.specs.declared.bar_tests.BarTest.{BarTest}
use Rattle.fp_prices_bars.specs.BarRuns.{BarAlso, IsRun}
use Rattle.fp_prices_bars.specs.BarTests.{is_barred_by}
use Rattle.fp_prices_bars.proofs.Bars.{bars-none}
use Rattle.fp_prices_bars.proofs.ShipmentBars.{IsBarred, before-all, before-more, empty-unbarred, own-within, test-barred, without-empty}
use Rattle.fp_prices_bars.proofs.leaf_runs.bars_over.Goals as goal

pub returns-in_default : goal.returns-in_default
returns-in_default c =
    let m = c.args.by_spans.now.pricing.now in
    let spans = c.args.by_spans.now.spans.now in
    let p : Problem = m.leaf.setting.problem in
    let i : ℕ = c.loop-shipment.shipment in
    let instance : c.instance.result.now ≡ p = c.instance.ensures.same ∙ c.round-round.ensures.problem ∙ ap (λ (l : LeafModel). l.setting.problem) c.leaf.ensures in
    let exists : i < length p.shipments = omega (arith, ap (λ (l : List Shipment). length l) c.shipments.ensures.same, ap (λ (q : Problem). length q.shipments) instance) in
    subst (AreBarsOf p (points_in m.leaf.setting.network) (IsBarred m spans c.args.limit)) (sym c.new.ensures.items)
    (bars-none p (points_in m.leaf.setting.network) (IsBarred m spans c.args.limit)
    (empty-unbarred m spans c.args.limit (without-empty m spans c.args.limit i exists c.requires.by_spans.chains (subst (IsLeastBySpans m spans i) c.in_default.is c.in_ok-own.ensures.exact))))

pub through_costs-requires-clause-free : goal.through_costs-requires-clause-free
through_costs-requires-clause-free c =
    let m = c.args.by_spans.now.pricing.now in
    let costs : List (Option ℕ) = c.least_cost.new.costs in
    let long : length costs ≡ length c.loop-shipment.costs.items = c.least_cost.auto.costs ∙ ap (λ (l : List (Option ℕ)). length l) c.deref_mut-in-loop-shipment.ensures.value in
    let written : take c.loop-shipment.costs.len (costs ++ drop (length costs) c.loop-shipment.costs.items) ≡ costs =
    whole_write c.loop-shipment.costs.len costs (drop (length costs) c.loop-shipment.costs.items) (omega (arith, c.loop-shipment.costs.ok, long)) in
    subst (IsFree (class_count m.leaf.setting.network)) (sym (c.deref_mut-in-loop-shipment-3.ensures.value ∙ written)) c.in_ok-own.ensures.free

pub overflow_sub-test : goal.overflow_sub-test
overflow_sub-test c =
    let m = c.args.by_spans.now.pricing.now in
    let spans = c.args.by_spans.now.spans.now in
    let p : Problem = m.leaf.setting.problem in
    let i : ℕ = c.loop-shipment.shipment in
    let instance : c.instance.result.now ≡ p = c.instance.ensures.same ∙ c.round-round.ensures.problem ∙ ap (λ (l : LeafModel). l.setting.problem) c.leaf.ensures in
    let exists : i < length p.shipments = omega (arith, ap (λ (l : List Shipment). length l) c.shipments.ensures.same, ap (λ (q : Problem). length q.shipments) instance) in
    let chains = c.requires.by_spans.chains in
    own-within m spans c.args.limit c.requires.fits c.args.value i c.in-Some.own c.in_ok-through.through.items [] chains.0 exists chains.1 (c.requires.value.of chains.0 chains.1)
    (subst (IsLeastBySpans m spans i) c.in-Some.is c.in_ok-own.ensures.exact) c.in_ok-through.ensures.exact

pub loop-shipment-preserved : goal.loop-shipment-preserved
loop-shipment-preserved c =
    let m = c.args.by_spans.now.pricing.now in
    let spans = c.args.by_spans.now.spans.now in
    let p : Problem = m.leaf.setting.problem in
    let net : TimedNetwork = m.leaf.setting.network in
    let i : ℕ = c.loop-shipment.shipment in
    let instance : c.instance.result.now ≡ p = c.instance.ensures.same ∙ c.round-round.ensures.problem ∙ ap (λ (l : LeafModel). l.setting.problem) c.leaf.ensures in
    let exists : i < length p.shipments = omega (arith, ap (λ (l : List Shipment). length l) c.shipments.ensures.same, ap (λ (q : Problem). length q.shipments) instance) in
    let chains = c.requires.by_spans.chains in
    let in_loop : c.instance-in-loop-shipment.result.now ≡ p = c.instance-in-loop-shipment.ensures.same ∙ c.round-round.ensures.problem ∙ ap (λ (l : LeafModel). l.setting.problem) c.leaf.ensures in
    let again : c.instance-in-loop-shipment-2.result.now ≡ p = c.instance-in-loop-shipment-2.ensures.same ∙ c.round-round.ensures.problem ∙ ap (λ (l : LeafModel). l.setting.problem) c.leaf.ensures in
    let over : c.network-in-loop-shipment.result.now ≡ net = c.network-in-loop-shipment.ensures.same ∙ c.round-round.ensures.network ∙ ap (λ (l : LeafModel). l.setting.network) c.leaf.ensures in
    let through : List (Option ℕ) = c.in_ok-through.through.items in
    let row : List Bool = c.row.result.now in
    let under : IsRowUnder m.leaf.setting m.leaf.sides i row = subst (λ (l : LeafModel). IsRowUnder l.setting l.sides i row) c.leaf-in-loop-shipment.ensures c.row.ensures in
    let scale : c.scale.result ≡ p.scale = c.scale.ensures.same ∙ ap (λ (q : Problem). q.scale) in_loop in
    let tested : ℕ → BarTest = λ n. record { rest = c.args.value.total - c.in-Some.own; charges = c.args.value.charges; scale = n; limit = c.args.limit } in
    let test : BarTest = tested p.scale in
    let old : List Side = c.loop-shipment.bars.items in
    let new : List Side = c.add_classes.new.bars.items in
    let whole : IsWholeNetwork p net =
    subst (λ (n : TimedNetwork). IsWholeNetwork p n) (c.round-round.ensures.network ∙ ap (λ (l : LeafModel). l.setting.network) c.leaf.ensures)
    (subst (λ (q : Problem). IsWholeNetwork q c.round-round.result.now.network) (c.round-round.ensures.problem ∙ ap (λ (l : LeafModel). l.setting.problem) c.leaf.ensures) c.network-in-loop-shipment.ensures.whole) in
    let also : BarAlso p net i (is_barred_by test row through) old new =
    subst (λ (n : ℕ). BarAlso p net i (is_barred_by (tested n) row through) old new) scale
    (subst (λ (n : TimedNetwork). BarAlso p n i (is_barred_by (tested c.scale.result) row through) old new) over
    (subst (λ (q : Problem). BarAlso q c.network-in-loop-shipment.result.now i (is_barred_by (tested c.scale.result) row through) old new) again
    (subst (λ (t : List (Option ℕ)). BarAlso c.instance-in-loop-shipment-2.result.now c.network-in-loop-shipment.result.now i (is_barred_by (tested c.scale.result) row t) old new) c.deref.ensures.value c.in_ok-add_classes.ensures.also))) in
    let runs : All (IsRun p) new = subst (λ (q : Problem). All (IsRun q) new) again c.in_ok-add_classes.ensures.runs in
    let decides : (e : Leg) → IsClass net e → (is_barred_by test row through (class_number net e) ≡ true) ↔ IsBarred m spans c.args.limit i e =
    λ e is.
    test-barred m spans c.args.limit c.requires.fits c.args.value i c.in-Some.own through row chains.0 exists chains.1 (c.requires.value.of chains.0 chains.1)
    (subst (IsLeastBySpans m spans i) c.in-Some.is c.in_ok-own.ensures.exact) c.in_ok-through.ensures.exact c.requires.value.small e whole under c.in_ok-through.ensures.small c.in_ok-through.ensures.len is in
    let prices : List ℕ = c.least_cost.new.prices in
    let costs : List (Option ℕ) = c.least_cost.new.costs in
    let prices_long : length prices ≡ length c.loop-shipment.prices.items = c.least_cost.auto.prices ∙ ap (λ (l : List ℕ). length l) c.deref_mut.ensures.value in
    let costs_long : length costs ≡ length c.loop-shipment.costs.items = c.least_cost.auto.costs ∙ ap (λ (l : List (Option ℕ)). length l) c.deref_mut-in-loop-shipment.ensures.value in
    let prices_now : List ℕ = take c.loop-shipment.prices.len (prices ++ drop (length prices) c.loop-shipment.prices.items) in
    let costs_now : List (Option ℕ) = take c.loop-shipment.costs.len (costs ++ drop (length costs) c.loop-shipment.costs.items) in
    let prices_written : prices_now ≡ prices = whole_write c.loop-shipment.prices.len prices (drop (length prices) c.loop-shipment.prices.items) (omega (arith, c.loop-shipment.prices.ok, prices_long)) in
    let costs_written : costs_now ≡ costs = whole_write c.loop-shipment.costs.len costs (drop (length costs) c.loop-shipment.costs.items) (omega (arith, c.loop-shipment.costs.ok, costs_long)) in
    let more : List ℕ = c.through_costs.new.prices in
    let last : List (Option ℕ) = c.through_costs.new.costs in
    let more_long : length more ≡ length prices = c.through_costs.auto.prices ∙ ap (λ (l : List ℕ). length l) (c.deref_mut-in-loop-shipment-2.ensures.value ∙ prices_written) in
    let last_long : length last ≡ length costs = c.through_costs.auto.costs ∙ ap (λ (l : List (Option ℕ)). length l) (c.deref_mut-in-loop-shipment-3.ensures.value ∙ costs_written) in
    let more_written : take c.loop-shipment.prices.len (more ++ drop (length more) prices_now) ≡ more = whole_write c.loop-shipment.prices.len more (drop (length more) prices_now) (omega (arith, c.loop-shipment.prices.ok, prices_long, more_long)) in
    let last_written : take c.loop-shipment.costs.len (last ++ drop (length last) costs_now) ≡ last = whole_write c.loop-shipment.costs.len last (drop (length last) costs_now) (omega (arith, c.loop-shipment.costs.ok, costs_long, last_long)) in
    record {
      before = before-more m spans c.args.limit i (is_barred_by test row through) old new whole decides c.loop-shipment.invariant.before runs also;
      long = ap (λ (l : List ℕ). length l) more_written ∙ more_long ∙ prices_long ∙ c.loop-shipment.invariant.long;
      edges = ap (λ (l : List (Option ℕ)). length l) last_written ∙ last_long ∙ costs_long ∙ c.loop-shipment.invariant.edges;
      free = subst (IsFree (class_count m.leaf.setting.network)) (sym last_written) c.in_ok-through.ensures.free;
    }

pub returns : goal.returns
returns c =
    let m = c.args.by_spans.now.pricing.now in
    let p : Problem = m.leaf.setting.problem in
    let instance : c.instance.result.now ≡ p = c.instance.ensures.same ∙ c.round-round.ensures.problem ∙ ap (λ (l : LeafModel). l.setting.problem) c.leaf.ensures in
    before-all m c.args.by_spans.now.spans.now c.args.limit c.loop-shipment.shipment c.loop-shipment.bars.items
    (omega (arith, ap (λ (l : List Shipment). length l) c.shipments.ensures.same, ap (λ (q : Problem). length q.shipments) instance)) c.loop-shipment.invariant.before
