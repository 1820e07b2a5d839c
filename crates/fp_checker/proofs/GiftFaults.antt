-- Gifts that break a rule, and spans and gifts that are listed and paid together.
use Rattle.std.proofs.Common.{◌≡◌, ℕ, Bool, true, false, List, [], ◌∷◌, refl, arith}
use Rattle.std.specs.Prelude.{All, Option}
use Rattle.fp_model.specs.Problem.{Problem}
use Rattle.fp_flatnet.specs.declared.window_tables.Window.{Window}
use Rattle.fp_prices_gifts.specs.declared.gifts.Gift.{Gift}
use Rattle.fp_prices_gifts.specs.declared.money_rule.GiftFault.{GiftFault}
use Rattle.fp_prices_gifts.specs.declared.money_rule.GiftFault.TheVariants.{Amounts, Money}
use Rattle.fp_prices_gifts.specs.Gifts.{IsGiftFault, IsGiftList}
use Rattle.fp_prices_spans.specs.SpanCharges.{ChargePays}
use Rattle.fp_prices_spans.specs.Spans.{ClassSpan}
use Rattle.fp_certificate_rules.specs.Prices.{AreListedBeside, AreListedWithGifts, ArePaidBeside, ArePricesBeside}

-- a rule that is broken isn't kept
pub gifts-refuted : (p : Problem) (spans : List ClassSpan) (gifts : List Gift) (fault : GiftFault) → IsGiftFault p spans gifts fault → IsGiftList p spans gifts → ⊥
gifts-refuted p spans gifts Amounts fault list = absurd (omega (arith, fault, list.light))
gifts-refuted p spans gifts Money fault list = fault.1 list.money

module _ (p : Problem) (spans : List ClassSpan) where
  -- where there are gifts, they are listed beside the spans
  pub listed-together : (gifts : List Gift) → (gifts ≡ [] → ⊥) → AreListedBeside p spans gifts → AreListedWithGifts p spans gifts
  listed-together [] some are = absurd (some refl)
  listed-together (gift ∷ gifts) some are = are

  pub listed-beside : (gifts : List Gift) → (gifts ≡ [] → ⊥) → AreListedWithGifts p spans gifts → AreListedBeside p spans gifts
  listed-beside [] some are = absurd (some refl)
  listed-beside (gift ∷ gifts) some are = are

module _ (p : Problem) (windows : ℕ → ℕ → Option Window) (first : ℕ → List ℕ) (spans : List ClassSpan) where
  -- those that are listed are paid where their charges pay
  pub listed-paid : (gifts : List Gift) → AreListedBeside p spans gifts → All (ChargePays p windows first) spans → ArePaidBeside p windows first spans gifts
  listed-paid [] are pay = record { list = are; paid = pay }
  listed-paid (gift ∷ gifts) are pay = record { ordered = are.ordered; light = are.light; given = are.given; paid = pay }

  -- and those that are paid are listed, and their charges pay
  paid-listed : (gifts : List Gift) → ArePaidBeside p windows first spans gifts → AreListedBeside p spans gifts
  paid-listed [] are = are.list
  paid-listed (gift ∷ gifts) are = record { ordered = are.ordered; light = are.light; given = are.given }

  pub paid-pay : (gifts : List Gift) → ArePaidBeside p windows first spans gifts → All (ChargePays p windows first) spans
  paid-pay [] are = are.paid
  paid-pay (gift ∷ gifts) are = are.paid

  -- by moments or not, they are listed
  pub prices-listed : (gifts : List Gift) (timed : Bool) → ArePricesBeside timed p windows first spans gifts → AreListedBeside p spans gifts
  prices-listed gifts false are = paid-listed gifts are
  prices-listed gifts true are = are
