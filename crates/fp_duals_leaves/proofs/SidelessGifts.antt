-- A leaf without sides is priced by no gifts.
use Rattle.std.proofs.Common.{◌≡◌, ℕ, Bool, List, [], ◌∷◌, refl, subst}
use Rattle.std.specs.Prelude.{None, Option, Some}
use Rattle.std.specs.List.{AllZip}
use Rattle.fp_model.specs.Problem.{Problem}
use Rattle.fp_flatnet.specs.declared.window_tables.Window.{Window}
use Rattle.fp_prices.specs.declared.leaf_prices.Kind.{Kind}
use Rattle.fp_prices.specs.Shares.{ClassShare}
use Rattle.fp_prices_gifts.specs.declared.gifts.Gift.{Gift}
use Rattle.fp_prices_gifts.specs.GiftLeaves.{IsGiftLeafValue}
use Rattle.fp_prices_gifts.specs.GiftNumbers.{gift_number}
use Rattle.fp_prices_gifts.proofs.OneGiftValue.{values-without-gifts}
use Rattle.fp_prices_spans.specs.SpanLeaves.{IsSpanLeafValue}
use Rattle.fp_prices_spans.specs.Spans.{ClassSpan}

-- no sides tell a gift a number
none-told : (n : ℕ) → None ≡ Some n → ⊥
none-told n is = cc

no-gifts : (gifts : List Gift) (numbers : List ℕ) → AllZip (λ gift n. gift_number [] gift ≡ Some n) gifts numbers → gifts ≡ []
no-gifts [] numbers all = refl
no-gifts (gift ∷ gifts) [] all = absurd all
no-gifts (gift ∷ gifts) (n ∷ numbers) all = absurd (none-told n all.0)

module _ (p : Problem) (windows : ℕ → ℕ → Option Window) (points : ℕ → List ℕ) (tables : List (List ClassShare)) (spans : List ClassSpan) (gifts : List Gift) (kind : Kind) (forced : Bool) (value : ℕ) where
  -- so a leaf without sides that has a value with gifts has none
  pub sideless-gifts : IsGiftLeafValue p windows points [] tables spans gifts kind forced value → gifts ≡ []
  sideless-gifts is = no-gifts gifts is.given.numbers is.given.are_numbers

  -- and the value is that by spans
  pub sideless-value : IsGiftLeafValue p windows points [] tables spans gifts kind forced value → IsSpanLeafValue p windows points [] tables spans kind forced value
  sideless-value is =
      (values-without-gifts p windows points [] tables spans kind forced value).0
      (subst (λ (gs : List Gift). IsGiftLeafValue p windows points [] tables spans gs kind forced value) (sideless-gifts is) is)
