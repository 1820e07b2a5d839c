-- What a shipment pays for the classes by spans, span by span.
use Rattle.std.proofs.Common.{◌≡◌, ℕ, ◌+◌, ◌<◌, Bool, true, false, List, length, get_or, take, refl, ap, ◌∙◌, arith}
use Rattle.std.specs.Prelude.{if◌then◌else◌}
use Rattle.std.proofs.lemmas.List.Sums.{sum_by_more}
use Rattle.fp_model.specs.declared.parts.Leg.{Leg}
use Rattle.fp_longestarcs.specs.Networks.{TimedNetwork}
use Rattle.fp_allowed.specs.Listing.{class_at}
use Rattle.fp_prices.specs.Prices.{weight_in}
use Rattle.fp_prices_spans.specs.declared.values.class_ranges.ClassRange.{ClassRange}
use Rattle.fp_prices_spans.specs.ClassRanges.{ArePricesBySpans, IsRangeOf, in_range}
use Rattle.fp_prices_spans.specs.Spans.{ClassSpan}
use Rattle.fp_prices_spans.specs.SpanLists.{no_span}
use Rattle.fp_prices_spans.specs.SpanPrices.{holds, span_price}

module _ (net : TimedNetwork) (spans : List ClassSpan) (i k : ℕ) where
  abbrev span : ClassSpan
  span = get_or spans i no_span

  -- the price with one more span
  price-more : (c : Leg) → i < length spans → span_price (take (i + 1) spans) k c ≡ span_price (take i spans) k c + (if holds span c then weight_in span.weights k else 0)
  price-more c inside = sum_by_more (λ (s : ClassSpan). if holds s c then weight_in s.weights k else 0) spans i no_span inside

  -- the weight is added where the span holds
  pub prices-more : (weight : ℕ) (range : ClassRange) (old new : List ℕ) → i < length spans → IsRangeOf net (get_or spans i no_span) range → weight ≡ weight_in (get_or spans i no_span).weights k →
      ArePricesBySpans net (take i spans) k old → length new ≡ length old →
      ((n : ℕ) → n < length old → get_or new n 0 ≡ get_or old n 0 + (if in_range range n then weight else 0)) → ArePricesBySpans net (take (i + 1) spans) k new
  prices-more weight range old new inside range_of weight_is so_far long added = record {
    long = long ∙ so_far.long;
    told = λ n within.
        let c : Leg = class_at net n in
        let part : (if in_range range n then weight else 0) ≡ (if holds span c then weight_in span.weights k else 0) =
        ap (λ (b : Bool). if b then weight else 0) (range_of.told n within) ∙ ap (λ (m : ℕ). if holds span c then m else 0) weight_is in
        omega (arith, added n (omega (arith, within, so_far.long)), so_far.told n within, part, price-more c inside);
  }

  -- a shipment without a weight pays nothing
  pub prices-same : (sums : List ℕ) → i < length spans → weight_in (get_or spans i no_span).weights k ≡ 0 → ArePricesBySpans net (take i spans) k sums → ArePricesBySpans net (take (i + 1) spans) k sums
  prices-same sums inside none so_far = record {
    long = so_far.long;
    told = λ n within.
        let c : Leg = class_at net n in
        let nothing : (if holds span c then weight_in span.weights k else 0) ≡ 0 = ap (λ (m : ℕ). if holds span c then m else 0) none ∙ zero_either (holds span c) in
        omega (arith, so_far.told n within, nothing, price-more c inside);
  }
    where
      zero_either : (b : Bool) → ◌≡◌ {A = ℕ} (if b then 0 else 0) 0
      zero_either true = refl
      zero_either false = refl
