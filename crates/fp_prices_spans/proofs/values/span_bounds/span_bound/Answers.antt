use Rattle.std.proofs.Common.{◌≡◌, ℕ, ◌+◌, ◌^◌, ◌≤◌, List, sym, subst, arith}
use Rattle.fp_model.specs.declared.parts.Leg.{Leg}
use Rattle.fp_model.specs.Problem.{IsValid}
use Rattle.fp_flatnet.specs.Tables.{windows_in}
use Rattle.fp_longestarcs.specs.Networks.{points_in}
use Rattle.fp_prices.specs.declared.values.bounds.LeafBound.{LeafBound}
use Rattle.fp_prices.specs.LeafPricings.{AreChainsOf, PricingModel}
use Rattle.fp_prices.specs.Prices.{AllKeepRule}
use Rattle.fp_prices_spans.specs.SpanCosts.{AreBases, HasChains, IsAfterCharges, IsFoundBySpans}
use Rattle.fp_prices_spans.specs.SpanLeaves.{IsSmallSpanBound, IsSpanBoundOf}
use Rattle.fp_prices_spans.specs.SpanLists.{AreSpans}
use Rattle.fp_prices_spans.specs.Spans.{ClassSpan}
use Rattle.fp_prices_spans.proofs.SpanBoundsFound.{bound-plans, value-after}
use Rattle.fp_prices_spans.proofs.values.span_bounds.span_bound.Goals as goal
use Rattle.fp_prices_spans.proofs.values.span_bounds.span_bound.Goals.{in-Empty, in-Value}

pub value_before_charges-requires-clause-by_spans : goal.value_before_charges-requires-clause-by_spans
value_before_charges-requires-clause-by_spans c =
    let m : PricingModel = record { leaf = c.args.leaf.now; tables = c.args.tables.now; kind = c.args.kind; forced = c.args.forced } in
    let same : c.in_ok-pricing.pricing ≡ m = c.in_ok-pricing.ensures.is in
    record {
      keep = subst (λ (o : PricingModel). AllKeepRule o.leaf.setting.problem o.tables) (sym same) c.requires.tables.rule;
      chains = subst (λ (o : PricingModel). HasChains o.leaf o.forced) (sym same) c.in_ok-pricing.ensures.chains;
      spans = subst (λ (o : PricingModel). AreSpans o.leaf.setting.problem c.args.spans.now) (sym same) c.requires.spans;
      row = c.in_ok-row.ensures;
    }

exact : (c : goal.After-drop-pricing-inside-5) →
    IsSpanBoundOf c.args.leaf.now.setting.problem (windows_in c.args.leaf.now.setting.windows) (points_in c.args.leaf.now.setting.network) c.args.leaf.now.sides c.args.tables.now c.args.spans.now c.args.kind c.args.forced c.match-found.result
exact c =
    let m : PricingModel = record { leaf = c.args.leaf.now; tables = c.args.tables.now; kind = c.args.kind; forced = c.args.forced } in
    let spans : List ClassSpan = c.args.spans.now in
    let Is : LeafBound → Type 0 = λ b.
    IsSpanBoundOf m.leaf.setting.problem (windows_in m.leaf.setting.windows) (points_in m.leaf.setting.network) m.leaf.sides m.tables spans m.kind m.forced b in
    let same : c.in_ok-pricing.pricing ≡ m = c.in_ok-pricing.ensures.is in
    let base : ℕ = c.bases.result in
    let found : IsFoundBySpans m spans base c.in_ok-found.found = subst (λ (o : PricingModel). IsFoundBySpans o spans base c.in_ok-found.found) same c.in_ok-found.ensures.exact in
    let bases : AreBases m base = subst (λ (o : PricingModel). AreBases o base) same c.bases.ensures in
    elim c.match-found.branch as (λ _. Is c.match-found.result) [
      | in-Value w ↦
          let value : ℕ = w.in-Value.value in
          let left : ℕ = w.after_charges.result in
          subst Is (sym w.result-is)
          (value-after m spans base value left c.in_ok-pricing.ensures.chains bases (subst (IsFoundBySpans m spans base) w.in-Value.is found)
          (subst (λ (o : PricingModel). (chains : List (List Leg)) → AreChainsOf o.leaf o.forced chains → IsAfterCharges o spans chains value left) same w.after_charges.ensures))
      | in-Empty w ↦ subst Is (sym w.result-is) (subst (IsFoundBySpans m spans base) w.in-Empty.is found)
    ]

pub returns-clause-exact : goal.returns-clause-exact
returns-clause-exact c = exact c

pub returns-clause-plans : goal.returns-clause-plans
returns-clause-plans c first among rules =
    let m : PricingModel = record { leaf = c.args.leaf.now; tables = c.args.tables.now; kind = c.args.kind; forced = c.args.forced } in
    let valid : IsValid m.leaf.setting.problem = subst (λ (o : PricingModel). IsValid o.leaf.setting.problem) c.in_ok-pricing.ensures.is c.in_ok-found.ensures.valid in
    bound-plans m c.args.spans.now first c.match-found.result valid among c.requires.tables.rule rules (exact c)

pub returns-clause-small : goal.returns-clause-small
returns-clause-small c =
    let chains = c.in_ok-pricing.ensures.chains in
    elim c.match-found.branch as (λ _. IsSmallSpanBound c.match-found.result) [
      | in-Value w ↦
          let m : PricingModel = c.in_ok-pricing.pricing in
          let is : AreChainsOf m.leaf m.forced chains.0 = subst (λ (o : PricingModel). AreChainsOf o.leaf o.forced chains.0) (sym c.in_ok-pricing.ensures.is) chains.1 in
          let off : IsAfterCharges m c.args.spans.now chains.0 w.in-Value.value w.after_charges.result = w.after_charges.ensures chains.0 is in
          let before : w.in-Value.value ≤ 2 ^ 127 + 2 ^ 125 = subst IsSmallSpanBound w.in-Value.is c.in_ok-found.ensures.small in
          let after : w.after_charges.result ≤ 2 ^ 127 + 2 ^ 125 = omega (arith, off.is, before) in
          subst IsSmallSpanBound (sym w.result-is) after
      | in-Empty w ↦ subst IsSmallSpanBound (sym w.result-is) tt
    ]
