-- What prices that hold are good for: each leaf is bounded by its value.
use Rattle.std.proofs.Common.{ℕ, ◌-◌, Bool, true, false, List, [], ◌∷◌, arith, rules}
use Rattle.std.specs.Prelude.{All, IfSome, Option, slice_index_or}
use Rattle.std.proofs.lemmas.List.Elements.{All-from_get_or, All-get_or, All-weaker}
use Rattle.fp_model.specs.Problem.{Problem, IsValid}
use Rattle.fp_flatnet.specs.declared.window_tables.Window.{Window}
use Rattle.fp_flatnet.specs.Initial.{initial_points}
use Rattle.fp_flatnet.specs.Tables.{WindowTable, windows_in}
use Rattle.fp_prices.specs.declared.leaf_prices.Kind.{Kind}
use Rattle.fp_prices.specs.declared.leaf_prices.Kind.TheVariants.{Linear, Even, Table}
use Rattle.fp_prices.specs.Prices.{AllKeepRule}
use Rattle.fp_prices_gifts.specs.declared.gifts.Gift.{Gift}
use Rattle.fp_prices_gifts.specs.GiftKinds.{gifts_beside}
use Rattle.fp_prices_gifts.specs.GiftLeaves.{KeepGiftRules}
use Rattle.fp_prices_gifts.specs.Gifts.{KeepMoneyRule}
use Rattle.fp_prices_gifts.proofs.GiftBounds.{rules-without_gifts, sound_gifts-keep_rules}
use Rattle.fp_prices_spans.specs.Spans.{ClassSpan}
use Rattle.fp_prices_spans.specs.SpanKinds.{spans_beside}
use Rattle.fp_prices_spans.specs.SpanLists.{AreSpansInOrder, IsSpanOf}
use Rattle.fp_prices_spans.proofs.MoneySums.{most_paid-fits}
use Rattle.fp_prices_spans.proofs.SoundSpans.{sound_spans-keep_rules}
use Rattle.fp_certificate_lines.specs.Moments.{by_moments, moments_of_table}
use Rattle.fp_certificate_lines.specs.Ranges.{IsSpanInRange, IsUnitInRange}
use Rattle.fp_certificate_lines.specs.Statements.{Statement}
use Rattle.fp_certificate_lines.proofs.SpanRanges.{IsSpanInRange-of}
use Rattle.fp_certificate_rules.specs.Prices.{AreListedBeside, ArePaid, ArePaidBeside, ArePricesBeside, HasPrices}
use Rattle.fp_certificate_rules.specs.Units.{IsUnit}
use Rattle.fp_certificate_rules.proofs.UnitCosts.{at-all}

-- spans of what exists, in order, that keep the money rule with gifts
pub record KeepMoneyInOrder (p : Problem) (spans : List ClassSpan) (gifts : List Gift) : Type 0 where
  pub exist : All (IsSpanOf p) spans
  pub ordered : AreSpansInOrder spans
  pub money : KeepMoneyRule p spans gifts

-- what spans and gifts beside a table keep: their rules, or, where it is by moments, what doesn't speak of charges
abbrev pub AreKeptBeside : (by_moments : Bool) → Problem → (windows : ℕ → ℕ → Option Window) → (first : ℕ → List ℕ) → List ClassSpan → List Gift → Type 0
AreKeptBeside false p windows first spans gifts = KeepGiftRules p windows first spans gifts
AreKeptBeside true p windows first spans gifts = KeepMoneyInOrder p spans gifts

-- the tables, the spans and the gifts keep their rules, and the unit divides what plans cost
pub record AreKept (p : Problem) (table : WindowTable) (c : Statement) : Type 0 where
  pub tables : AllKeepRule p c.tables
  pub spans : (kind : Kind) → AreKeptBeside (by_moments c.moments kind) p (windows_in table) (initial_points p table.anchors) (spans_beside c.spans kind) (gifts_beside c.gifts kind)
  pub range : IfSome c.unit IsUnitInRange
  pub unit : IfSome c.unit (IsUnit p)

-- what holds of all elements in two ways
pub All-both : {X : Type 0} (P Q R : X → Type 0) (d : X) → ((x : X) → P x → Q x → R x) → (xs : List X) → All P xs → All Q xs → All R xs
All-both P Q R d both xs one other =
    All-from_get_or R xs d (λ i there. both (slice_index_or xs i d) (All-get_or P xs i d there one) (All-get_or Q xs i d there other))

-- spans in range are of arcs and shipments that exist, also those beside the table with a number
of-range : (p : Problem) (spans : List ClassSpan) → All (IsSpanInRange p) spans → All (IsSpanOf p) spans
of-range p spans range = All-weaker (IsSpanInRange p) (IsSpanOf p) (IsSpanInRange-of p) spans range

pub beside-of : (p : Problem) (spans : List (List ClassSpan)) → All (All (IsSpanInRange p)) spans → (id : ℕ) → All (IsSpanOf p) (slice_index_or spans (id - 1) [])
beside-of p spans range id = of-range p (slice_index_or spans (id - 1) []) (at-all (All (IsSpanInRange p)) spans (id - 1) [] (search rules) range)

-- spans and gifts that are listed keep the money rule; without gifts it is the spans' own
AreListedBeside-keep : (p : Problem) (spans : List ClassSpan) (gifts : List Gift) → All (IsSpanOf p) spans → AreListedBeside p spans gifts → KeepMoneyInOrder p spans gifts
AreListedBeside-keep p spans [] of are = record { exist = of; ordered = are.ordered; money = λ c. omega (arith, most_paid-fits p spans [] c are.money) }
AreListedBeside-keep p spans (gift ∷ gifts) of are = record { exist = of; ordered = are.ordered; money = are.given.money }

module _ (p : Problem) (windows : ℕ → ℕ → Option Window) (first : ℕ → List ℕ) where
  -- spans and gifts that are paid keep their rules
  ArePaidBeside-keep : (spans : List ClassSpan) (gifts : List Gift) → IsValid p → All (IsSpanOf p) spans → ArePaidBeside p windows first spans gifts → KeepGiftRules p windows first spans gifts
  ArePaidBeside-keep spans [] valid of are = rules-without_gifts p windows first spans (sound_spans-keep_rules p windows first spans valid of are.list are.paid)
  ArePaidBeside-keep spans (gift ∷ gifts) valid of are = sound_gifts-keep_rules p windows first spans (gift ∷ gifts) valid of are.ordered are.given are.paid

  -- so do those of which the prices ask it
  ArePricesBeside-keep : (timed : Bool) (spans : List ClassSpan) (gifts : List Gift) → IsValid p → All (IsSpanOf p) spans → ArePricesBeside timed p windows first spans gifts → AreKeptBeside timed p windows first spans gifts
  ArePricesBeside-keep false spans gifts valid of are = ArePaidBeside-keep spans gifts valid of are
  ArePricesBeside-keep true spans gifts valid of are = AreListedBeside-keep p spans gifts of are

  -- no spans and no gifts keep them
  none-keep : KeepGiftRules p windows first [] []
  none-keep = rules-without_gifts p windows first [] (record { money = tt; sets = tt })

  -- so do those beside each table
  beside-keep : (spans : List (List ClassSpan)) (gifts : List (List Gift)) (moments : List Bool) → IsValid p → All (All (IsSpanInRange p)) spans → ArePaid p windows first spans gifts moments → (kind : Kind) →
      AreKeptBeside (by_moments moments kind) p windows first (spans_beside spans kind) (gifts_beside gifts kind)
  beside-keep spans gifts moments valid range are Linear = none-keep
  beside-keep spans gifts moments valid range are Even = none-keep
  beside-keep spans gifts moments valid range are (Table id) =
      ArePricesBeside-keep (moments_of_table moments id) (spans_beside spans (Table id)) (gifts_beside gifts (Table id)) valid (beside-of p spans range id) (are id)

-- the prices of a certificate that hold are kept, where its spans and its unit are in range
pub HasPrices-kept : (p : Problem) (table : WindowTable) (c : Statement) → IsValid p → All (All (IsSpanInRange p)) c.spans → IfSome c.unit IsUnitInRange → HasPrices p table c → AreKept p table c
HasPrices-kept p table c valid spans unit has = record {
  tables = has.tables.rule;
  spans = beside-keep p (windows_in table) (initial_points p table.anchors) c.spans c.gifts c.moments valid spans has.spans;
  range = unit;
  unit = has.unit;
}
