use Rattle.std.proofs.Common.{◌≡◌, ℕ, ◌+◌, ◌<◌, List, length, get_or, take, sym, ap, ◌∙◌, subst, arith}
use Rattle.std.proofs.lemmas.List.{get_or-replicate, get_or_default, get_or_read, take_all}
use Rattle.fp_allowed.specs.Listing.{class_at}
use Rattle.fp_prices.specs.declared.tables.Weight.{Weight}
use Rattle.fp_prices.specs.Prices.{weight_in}
use Rattle.fp_prices_spans.specs.ClassRanges.{ArePricesBySpans, IsRangeOf}
use Rattle.fp_prices_spans.specs.Spans.{ClassSpan}
use Rattle.fp_prices_spans.specs.SpanLists.{no_span}
use Rattle.fp_prices_spans.specs.SpanRules.{WeightsAscend}
use Rattle.fp_prices_spans.proofs.WeightTotals.{more-le}
use Rattle.fp_prices_spans.proofs.PricesSoFar.{prices-more, prices-same}
use Rattle.fp_prices_spans.proofs.values.span_prices.fill_prices.Goals as goal
use Rattle.fp_prices_spans.proofs.values.span_prices.fill_prices.Goals.{then-weight-gt0, else-weight-gt0}

pub loop-span-init : goal.loop-span-init
loop-span-init c =
    let zeros = c.fill.ensures.after (λ y same. same) in
    record {
      long = c.fill.ensures.len ∙ c.requires.long;
      told = λ n within. ap (λ (l : List ℕ). get_or l n 0) zeros ∙ get_or-replicate (length c.args.sums.now) n 0 0 (omega (arith, within, c.requires.long));
    }

pub weight_of-weight-requires : goal.weight_of-weight-requires
weight_of-weight-requires c =
    let spans : List ClassSpan = c.args.spans.now in
    let i : ℕ = c.loop-span.span-index in
    let inside : i < length spans = omega arith in
    let weights : c.deref.result.now ≡ (get_or spans i no_span).weights =
    c.deref.ensures.value ∙ ap (λ (s : ClassSpan). s.weights) c.span.view_is ∙ ap (λ (s : ClassSpan). s.weights) (get_or_read spans i c.span-item.result inside c.span-item.is no_span) in
    subst WeightsAscend (sym weights) (c.requires.spans.ordered.weights i no_span inside)

pub add_weight-requires-clause-room : goal.add_weight-requires-clause-room
add_weight-requires-clause-room c k d inside =
    let spans : List ClassSpan = c.args.spans.now in
    let i : ℕ = c.loop-span.span-index in
    let one : i < length spans = omega arith in
    let weights : c.deref.result.now ≡ (get_or spans i no_span).weights =
    c.deref.ensures.value ∙ ap (λ (s : ClassSpan). s.weights) c.span.view_is ∙ ap (λ (s : ClassSpan). s.weights) (get_or_read spans i c.span-item.result one c.span-item.is no_span) in
    let weight : c.weight_of-weight.result ≡ weight_in (get_or spans i no_span).weights c.args.shipment = c.weight_of-weight.ensures ∙ ap (λ (l : List Weight). weight_in l c.args.shipment) weights in
    omega (
      arith,
      get_or_default c.loop-span.sums k d 0 inside,
      c.loop-span.invariant.told k (omega (arith, inside, c.loop-span.invariant.long)),
      weight,
      more-le spans i c.args.shipment (class_at c.args.network.now k) one,
      c.requires.spans.light,
    )

pub loop-span-preserved : goal.loop-span-preserved
loop-span-preserved c =
    let net = c.args.network.now in
    let k : ℕ = c.args.shipment in
    let spans : List ClassSpan = c.args.spans.now in
    let i : ℕ = c.loop-span.span-index in
    let inside : i < length spans = omega arith in
    let span_is : c.span-item.result ≡ get_or spans i no_span = get_or_read spans i c.span-item.result inside c.span-item.is no_span in
    let weights : c.deref.result.now ≡ (get_or spans i no_span).weights = c.deref.ensures.value ∙ ap (λ (s : ClassSpan). s.weights) c.span.view_is ∙ ap (λ (s : ClassSpan). s.weights) span_is in
    let weight : c.weight_of-weight.result ≡ weight_in (get_or spans i no_span).weights k = c.weight_of-weight.ensures ∙ ap (λ (l : List Weight). weight_in l k) weights in
    elim c.if-weight-gt0.branch as (λ _. ArePricesBySpans net (take (i + 1) spans) k c.if-weight-gt0.sums) [
      | then-weight-gt0 w ↦
          subst (ArePricesBySpans net (take (i + 1) spans) k) (sym w.sums-is)
          (prices-more net spans i k c.weight_of-weight.result w.range_of.result c.loop-span.sums w.add_weight.new.sums inside (subst (λ (s : ClassSpan). IsRangeOf net s w.range_of.result) span_is w.range_of.ensures) weight
          c.loop-span.invariant w.add_weight.auto.sums (w.add_weight.ensures.sums))
      | else-weight-gt0 w ↦
          subst (ArePricesBySpans net (take (i + 1) spans) k) (sym w.sums-is)
          (prices-same net spans i k c.loop-span.sums inside (let none : weight_in (get_or spans i no_span).weights k ≡ 0 = omega (arith, weight, w.if-weight-gt0.false) in none) c.loop-span.invariant)
    ]

pub returns : goal.returns
returns c = subst (λ (l : List ClassSpan). ArePricesBySpans c.args.network.now l c.args.shipment c.loop-span.sums) (take_all c.loop-span.span-index c.args.spans.now (omega arith)) c.loop-span.invariant
