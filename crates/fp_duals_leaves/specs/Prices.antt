-- The prices of a search.
use Rattle.std.specs.Prelude.{ℕ, ◌≡◌, List, [], ◌++◌, length, take, All, Option, None, IfSome}
use Rattle.std.specs.List.{AllZip}
use Rattle.fp_model.specs.Problem.{Problem}
use Rattle.fp_flatnet.specs.Tables.{WindowTable}
use Rattle.fp_prices.specs.Shares.{ClassShare}
use Rattle.fp_prices_gifts.specs.declared.gifts.Gift.{Gift}
use Rattle.fp_prices_spans.specs.Spans.{ClassSpan}
use Rattle.fp_certificate_lines.specs.Ranges.{IsUnitInRange}
use Rattle.fp_duals.specs.PriceTables.{ArePriceTables}
use Rattle.fp_duals_leaves.specs.SoundSpans.{AreSoundSpans}
use Rattle.fp_certificate_rules.specs.Units.{IsUnit}

-- tables of prices, the spans and the gifts beside each, and the unit by which what leaves are worth is rounded up: a search that seeks
-- spans has one
pub record PriceLists : Type 0 where
  pub tables : List (List ClassShare)
  pub spans : List (List ClassSpan)
  pub gifts : List (List Gift)
  pub unit : Option ℕ

-- prices without tables
abbrev pub empty_prices : Option ℕ → PriceLists
empty_prices unit = record { tables = []; spans = []; gifts = []; unit = unit }

-- no prices
abbrev pub no_prices : PriceLists
no_prices = empty_prices None

-- prices with more tables, and the spans and the gifts beside them
abbrev pub with_more : PriceLists → List (List ClassShare) → List (List ClassSpan) → List (List Gift) → PriceLists
with_more x tables spans gifts = record { tables = x.tables ++ tables; spans = x.spans ++ spans; gifts = x.gifts ++ gifts; unit = x.unit }

-- the first so many tables, with the spans and the gifts beside them
abbrev pub first_prices : ℕ → PriceLists → PriceLists
first_prices n x = record { tables = take n x.tables; spans = take n x.spans; gifts = take n x.gifts; unit = x.unit }

-- a unit divides what plans cost, and can be written in a certificate
pub record IsUnitOf (p : Problem) (unit : ℕ) : Type 0 where
  pub divides : IsUnit p unit
  pub range : IsUnitInRange unit

-- tables of prices of the instance, with spans and gifts beside each that are sound by its windows, and a unit of it; without a unit
-- there are no spans and no gifts
pub record ArePrices (p : Problem) (table : WindowTable) (x : PriceLists) : Type 0 where
  pub tables : ArePriceTables p x.tables
  pub sound : AllZip (AreSoundSpans p table) x.spans x.gifts
  pub beside : length x.spans ≡ length x.tables
  pub unit : IfSome x.unit (IsUnitOf p)
  pub without : x.unit ≡ None → All (λ (spans : List ClassSpan). spans ≡ []) x.spans
  pub ungiven : x.unit ≡ None → All (λ (gifts : List Gift). gifts ≡ []) x.gifts

-- the tables that were there stay with the spans and the gifts beside them, others may have come after them, and all are prices of the
-- instance by its windows
pub record HaveGrown (p : Problem) (table : WindowTable) (before after : PriceLists) : Type 0 where
  pub tables : List (List ClassShare)
  pub spans : List (List ClassSpan)
  pub gifts : List (List Gift)
  pub is : after ≡ with_more before tables spans gifts
  pub prices : ArePrices p table after
