use Rattle.std.proofs.Common.{◌≡◌, ℕ, ◌<◌, List, length, take}
use Rattle.fp_longestarcs.specs.Networks.{class_count}
use Rattle.fp_model.specs.declared.parts.Leg.{Leg}
use Rattle.fp_allowed.specs.Bits.{bit_of}
use Rattle.fp_allowed.specs.Listing.{class_at}
use Rattle.fp_prices.specs.LeafPricings.{AreChainsOf}
use Rattle.fp_prices_spans.specs.ClassRanges.{is_spanned}
use Rattle.fp_prices_spans.proofs.values.spanned_rows.spanned_row.Given as goal

-- the row is that of the spans so far
abbrev pub invariant-loop-span : goal.invariant-loop-span
invariant-loop-span l = record {
  long : length l.row ≡ class_count l.pricing.leaf.setting.network;
  told : (chains : List (List Leg)) → AreChainsOf l.pricing.leaf l.pricing.forced chains → (n : ℕ) → n < class_count l.pricing.leaf.setting.network →
      bit_of l.row n ≡ is_spanned (take l.span-index l.spans) chains (class_at l.pricing.leaf.setting.network n);
}
