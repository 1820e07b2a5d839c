use Rattle.std.proofs.Common.{◌≡◌, ℕ, ◌<◌, ◌≤◌, ◌||◌, List, length}
use Rattle.std.specs.Prelude.{◌&&◌, not}
use Rattle.fp_longestarcs.specs.Networks.{class_count}
use Rattle.fp_model.specs.declared.parts.Leg.{Leg}
use Rattle.fp_model.specs.Costs.{all_legs, has_leg}
use Rattle.fp_allowed.specs.Bits.{bit_of}
use Rattle.fp_allowed.specs.Listing.{class_at}
use Rattle.fp_prices.specs.LeafPricings.{AreChainsOf}
use Rattle.fp_prices_spans.proofs.Between.{between}
use Rattle.fp_prices_spans.proofs.values.spanned_rows.mark.Given as goal

-- the bits of those classes so far that aren't forced are set
abbrev pub invariant-loop-class : goal.invariant-loop-class
invariant-loop-class l = record {
  from : l.fn.range.first ≤ l.class;
  until : l.class ≤ l.fn.range.end;
  long : length l.row ≡ length l.fn.row;
  told : (chains : List (List Leg)) → AreChainsOf l.pricing.leaf l.pricing.forced chains → (n : ℕ) → n < class_count l.pricing.leaf.setting.network →
      bit_of l.row n ≡ (bit_of l.fn.row n || (between l.fn.range.first l.class n && not (has_leg (class_at l.pricing.leaf.setting.network n) (all_legs chains))));
}
