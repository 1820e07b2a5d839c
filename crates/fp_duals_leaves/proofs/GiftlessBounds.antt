-- Without gifts, the bound of a leaf is that by spans.
use Rattle.std.proofs.Common.{◌≡◌, ℕ, Bool, List, [], sym, subst}
use Rattle.std.specs.Prelude.{Option, Some}
use Rattle.fp_model.specs.Problem.{Problem}
use Rattle.fp_flatnet.specs.declared.window_tables.Window.{Window}
use Rattle.fp_tree.specs.declared.sides.Side.{Side}
use Rattle.fp_prices.specs.declared.leaf_prices.Kind.{Kind}
use Rattle.fp_prices.specs.declared.values.bounds.LeafBound.{LeafBound}
use Rattle.fp_prices.specs.declared.values.bounds.LeafBound.TheVariants.{Empty, Value}
use Rattle.fp_prices.specs.Shares.{ClassShare}
use Rattle.fp_prices_gifts.specs.declared.gifts.Gift.{Gift}
use Rattle.fp_prices_gifts.specs.GiftLeaves.{IsGiftBound, IsGiftBoundOf}
use Rattle.fp_prices_gifts.proofs.OneGiftValue.{values-without-gifts}
use Rattle.fp_prices_spans.specs.SpanLeaves.{IsSpanBoundOf}
use Rattle.fp_prices_spans.specs.Spans.{ClassSpan}

module _ (p : Problem) (windows : ℕ → ℕ → Option Window) (points : ℕ → List ℕ) (sides : List Side) (tables : List (List ClassShare)) (spans : List ClassSpan) (kind : Kind) (forced : Bool) where
  giftless : (bound : LeafBound) → IsSpanBoundOf p windows points sides tables spans kind forced bound → IsGiftBoundOf p windows points sides tables spans [] kind forced bound
  giftless (Empty shipment) is = is
  giftless (Value value) is = (values-without-gifts p windows points sides tables spans kind forced value).1 is

  -- so it is the bound with gifts where there are none
  pub bound-giftless : (gifts : List Gift) (bound : LeafBound) → gifts ≡ [] → IsSpanBoundOf p windows points sides tables spans kind forced bound →
      IsGiftBound p windows points sides tables spans gifts kind forced (Some bound)
  bound-giftless gifts bound none is = subst (λ (gs : List Gift). IsGiftBoundOf p windows points sides tables spans gs kind forced bound) (sym none) (giftless bound is)
