use Rattle.std.proofs.Common.{◌≡◌, ℕ, List, get_or, ap, ◌∙◌, subst, arith}
use Rattle.std.specs.Prelude.{None, Option, if◌then◌else◌}
use Rattle.std.specs.Option.{option_map}
use Rattle.std.proofs.lemmas.List.{get_or_default}
use Rattle.fp_model.specs.Problem.{IsValid, Problem}
use Rattle.fp_longestarcs.specs.Networks.{TimedNetwork, point_count}
use Rattle.fp_longestarcs.specs.Whole.{IsWholeNetwork}
use Rattle.fp_allowed.specs.Bits.{bit_of}
use Rattle.fp_allowed.specs.Listing.{class_at}
use Rattle.fp_prices.specs.Rounds.{LeafModel}
use Rattle.fp_prices_spans.specs.ClassRanges.{ArePricesBySpans}
use Rattle.fp_prices_spans.specs.SpanCosts.{cost_at}
use Rattle.fp_prices_spans.proofs.SpanCosts.{costs-by_spans}
use Rattle.fp_prices_spans.proofs.WeightTotals.{price-le}
use Rattle.fp_prices_spans.proofs.values.span_costs.fill_costs.Goals as goal

pub put_in-requires-clause-small : goal.put_in-requires-clause-small
put_in-requires-clause-small c n d inside =
    omega (
      arith,
      get_or_default c.fill_prices.new.sums n d 0 inside,
      c.fill_prices.ensures.told n (omega (arith, inside, c.fill_prices.ensures.long)),
      price-le c.args.by_spans.now.spans.now c.args.shipment (class_at c.network.result.now n),
      c.requires.by_spans.spans.light,
    )

problem : (c : goal.After-costs-2-1) → c.round-round.result.now.problem ≡ c.args.by_spans.now.pricing.now.leaf.setting.problem
problem c = c.round-round.ensures.problem ∙ ap (λ (l : LeafModel). l.setting.problem) c.leaf.ensures

network : (c : goal.After-costs-2-1) → c.round-round.result.now.network ≡ c.args.by_spans.now.pricing.now.leaf.setting.network
network c = c.round-round.ensures.network ∙ ap (λ (l : LeafModel). l.setting.network) c.leaf.ensures

whole : (c : goal.After-costs-2-1) → IsWholeNetwork c.args.by_spans.now.pricing.now.leaf.setting.problem c.args.by_spans.now.pricing.now.leaf.setting.network
whole c =
    subst (λ (p : Problem). IsWholeNetwork p c.args.by_spans.now.pricing.now.leaf.setting.network) (problem c)
    (subst (λ (n : TimedNetwork). IsWholeNetwork c.round-round.result.now.problem n) (network c) c.network.ensures.whole)

pub returns-clause-valid : goal.returns-clause-valid
returns-clause-valid c = subst IsValid (problem c) c.instance.ensures.valid

pub returns-clause-whole : goal.returns-clause-whole
returns-clause-whole c = whole c

pub returns-clause-few : goal.returns-clause-few
returns-clause-few c = omega (arith, c.network.ensures.few, ap (λ (n : TimedNetwork). point_count n) (network c))

pub returns-clause-costs : goal.returns-clause-costs
returns-clause-costs c =
    let m = c.args.by_spans.now.pricing.now in
    let p : Problem = m.leaf.setting.problem in
    let net : TimedNetwork = m.leaf.setting.network in
    let k : ℕ = c.args.shipment in
    let prices : List ℕ = c.fill_prices.new.sums in
    let old : List (Option ℕ) = c.fill_costs.new.costs in
    let new : List (Option ℕ) = c.put_in.new.costs in
    let Put : Problem → TimedNetwork → Type 0 = λ q n. (i : ℕ) → get_or new i None ≡ (if bit_of c.args.by_spans.now.row.now i then option_map (λ (_ : ℕ). cost_at q n prices k i) (get_or old i None) else get_or old i None) in
    costs-by_spans m c.args.by_spans.now.spans.now k c.args.by_spans.now.row.now prices old new (whole c) c.requires.by_spans.row
    (subst (λ (n : TimedNetwork). ArePricesBySpans n c.args.by_spans.now.spans.now k prices) (c.network.ensures.same ∙ network c) c.fill_prices.ensures) c.fill_costs.ensures.costs
    (subst (λ (n : TimedNetwork). Put p n) (c.network-2.ensures.same ∙ network c) (subst (λ (q : Problem). Put q c.network-2.result.now) (c.instance-2.ensures.same ∙ problem c) c.put_in.ensures))
