-- The classes of a network for which spans hold, by their numbers.
use Rattle.std.specs.Prelude.{ℕ, ◌≡◌, ◌<◌, ◌≤◌, List, Bool, ◌&&◌, not, nat_le, nat_lt, length, slice_index}
use Rattle.fp_model.specs.declared.parts.Leg.{Leg}
use Rattle.fp_model.specs.Costs.{all_legs, has_leg}
use Rattle.fp_longestarcs.specs.Networks.{TimedNetwork, class_count}
use Rattle.fp_allowed.specs.Bits.{bit_of}
use Rattle.fp_allowed.specs.Listing.{class_at}
use Rattle.fp_prices.specs.LeafPricings.{AreChainsOf, PricingModel}
use Rattle.fp_prices_spans.specs.declared.values.class_ranges.ClassRange.{ClassRange}
use Rattle.fp_prices_spans.specs.Spans.{ClassSpan}
use Rattle.fp_prices_spans.specs.SpanPrices.{holds, is_held, span_price}

-- whether a number is one of a range
abbrev pub in_range : ClassRange → ℕ → Bool
in_range range n = nat_le range.first n && nat_lt n range.end

-- the range has the numbers of the classes for which the span holds
pub record IsRangeOf (net : TimedNetwork) (span : ClassSpan) (range : ClassRange) : Type 0 where
  pub order : range.first ≤ range.end
  pub within : range.end ≤ class_count net
  pub told : (n : ℕ) → n < class_count net → in_range range n ≡ holds span (class_at net n)

-- whether a class is priced by spans: some span holds for it, and no chain has it
abbrev pub is_spanned : List ClassSpan → (chains : List (List Leg)) → Leg → Bool
is_spanned spans chains c = is_held spans c && not (has_leg c (all_legs chains))

-- the row has one bit per class, set exactly where the class is priced by the spans
pub record IsSpannedRow (m : PricingModel) (spans : List ClassSpan) (row : List Bool) : Type 0 where
  pub long : length row ≡ class_count m.leaf.setting.network
  pub told : (chains : List (List Leg)) → AreChainsOf m.leaf m.forced chains →
      (n : ℕ) → n < class_count m.leaf.setting.network → bit_of row n ≡ is_spanned spans chains (class_at m.leaf.setting.network n)

-- for each class, by its number, what the shipment with the number k pays for it by the spans
pub record ArePricesBySpans (net : TimedNetwork) (spans : List ClassSpan) (k : ℕ) (sums : List ℕ) : Type 0 where
  pub long : length sums ≡ class_count net
  pub told : (n : ℕ) → n < class_count net → slice_index sums n ≡ span_price spans k (class_at net n)
