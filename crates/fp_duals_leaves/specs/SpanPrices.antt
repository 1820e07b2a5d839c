-- Spans and gifts by which a leaf is worth more.
use Rattle.std.specs.Prelude.{ℕ, ◌<◌, List, [], false}
use Rattle.fp_model.specs.Problem.{Problem}
use Rattle.fp_flatnet.specs.Tables.{WindowTable, windows_in}
use Rattle.fp_tree.specs.declared.sides.Side.{Side}
use Rattle.fp_prices.specs.declared.leaf_prices.Kind.TheVariants.{Linear}
use Rattle.fp_prices_gifts.specs.GiftLeaves.{IsGiftLeafValue}
use Rattle.fp_duals_leaves.specs.declared.span_prices.SpanPrice.{SpanPrice}
use Rattle.fp_duals_leaves.specs.SoundSpans.{AreSoundSpans}

-- sound spans and gifts by which the leaf under sides is worth more than a value, where classes for which no span holds have linear prices
pub record IsBetterPrice (p : Problem) (table : WindowTable) (points : ℕ → List ℕ) (sides : List Side) (value : ℕ) (price : SpanPrice) : Type 0 where
  pub sound : AreSoundSpans p table price.spans.items price.gifts.items
  pub is : IsGiftLeafValue p (windows_in table) points sides [] price.spans.items price.gifts.items Linear false price.value
  pub above : value < price.value
