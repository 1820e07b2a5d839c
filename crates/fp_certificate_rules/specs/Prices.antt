-- The prices of a certificate: its tables, the spans and the gifts beside them, and its unit.
use Rattle.std.specs.Prelude.{ℕ, ◌<◌, List, [], ◌∷◌, All, Bool, true, false, IfSome, Option}
use Rattle.fp_model.specs.Problem.{Problem}
use Rattle.fp_flatnet.specs.declared.window_tables.Window.{Window}
use Rattle.fp_flatnet.specs.Initial.{initial_points}
use Rattle.fp_flatnet.specs.Tables.{WindowTable, windows_in}
use Rattle.fp_prices.specs.Tables.{AreTables}
use Rattle.fp_prices_gifts.specs.declared.gifts.Gift.{Gift}
use Rattle.fp_prices_gifts.specs.GiftKinds.{gifts_of_table}
use Rattle.fp_prices_gifts.specs.Gifts.{IsGiftList}
use Rattle.fp_prices_spans.specs.declared.spans.TheConstants.{MOST_SPAN_WEIGHT}
use Rattle.fp_prices_spans.specs.SpanCharges.{ArePaidSpans, ChargePays}
use Rattle.fp_prices_spans.specs.SpanKinds.{spans_of_table}
use Rattle.fp_prices_spans.specs.SpanLists.{AreSpansInOrder, IsSpanList, weight_total}
use Rattle.fp_prices_spans.specs.Spans.{ClassSpan}
use Rattle.fp_certificate_lines.specs.Moments.{moments_of_table}
use Rattle.fp_certificate_lines.specs.Statements.{Statement}
use Rattle.fp_certificate_rules.specs.Units.{IsUnit}

-- spans beside which gifts stand: they are in order and light, and the gifts are light and keep the money rule with them, which takes the
-- place of the spans' own
pub record AreListedWithGifts (p : Problem) (spans : List ClassSpan) (gifts : List Gift) : Type 0 where
  pub ordered : AreSpansInOrder spans
  pub light : weight_total spans < MOST_SPAN_WEIGHT
  pub given : IsGiftList p spans gifts

-- the spans and the gifts beside one table are listed as they have to be, whatever the charges: where no gifts stand there, the spans keep
-- the money rule by themselves
abbrev pub AreListedBeside : Problem → List ClassSpan → List Gift → Type 0
AreListedBeside p spans [] = IsSpanList p spans
AreListedBeside p spans (gift ∷ gifts) = AreListedWithGifts p spans (gift ∷ gifts)

-- spans beside which gifts stand: they are listed so, and their charges pay
pub record ArePaidWithGifts (p : Problem) (windows : ℕ → ℕ → Option Window) (first : ℕ → List ℕ) (spans : List ClassSpan) (gifts : List Gift) : Type 0 where
  pub ordered : AreSpansInOrder spans
  pub light : weight_total spans < MOST_SPAN_WEIGHT
  pub given : IsGiftList p spans gifts
  pub paid : All (ChargePays p windows first) spans

-- the spans and the gifts beside one table are paid, by windows and first points: where no gifts stand there, the spans are by themselves
abbrev pub ArePaidBeside : Problem → (windows : ℕ → ℕ → Option Window) → (first : ℕ → List ℕ) → List ClassSpan → List Gift → Type 0
ArePaidBeside p windows first spans [] = ArePaidSpans p windows first spans
ArePaidBeside p windows first spans (gift ∷ gifts) = ArePaidWithGifts p windows first spans (gift ∷ gifts)

-- beside a table by moments they are only listed: there charges are tested at the leaves
abbrev pub ArePricesBeside : (by_moments : Bool) → Problem → (windows : ℕ → ℕ → Option Window) → (first : ℕ → List ℕ) → List ClassSpan → List Gift → Type 0
ArePricesBeside false p windows first spans gifts = ArePaidBeside p windows first spans gifts
ArePricesBeside true p windows first spans gifts = AreListedBeside p spans gifts

-- so are those beside each table with a number, of lists for the tables in order
abbrev pub ArePaid : Problem → (windows : ℕ → ℕ → Option Window) → (first : ℕ → List ℕ) → List (List ClassSpan) → List (List Gift) → (moments : List Bool) → Type 0
ArePaid p windows first spans gifts moments =
    (id : ℕ) → ArePricesBeside (moments_of_table moments id) p windows first (spans_of_table spans id) (gifts_of_table gifts id)

-- the tables are in order and keep the price rule, the spans and the gifts beside each are paid by the windows and the initial points, or
-- only listed where the table is by moments, and the unit divides what plans cost
pub record HasPrices (p : Problem) (table : WindowTable) (c : Statement) : Type 0 where
  pub tables : AreTables p c.tables
  pub spans : ArePaid p (windows_in table) (initial_points p table.anchors) c.spans c.gifts c.moments
  pub unit : IfSome c.unit (IsUnit p)
