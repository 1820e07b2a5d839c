-- Spans and gifts by which values of leaves bound plans.
use Rattle.std.specs.Prelude.{◌-◌, ◌^◌, ◌<◌, List, length, All}
use Rattle.fp_model.specs.Problem.{Problem}
use Rattle.fp_flatnet.specs.Initial.{initial_points}
use Rattle.fp_flatnet.specs.Tables.{WindowTable, windows_in}
use Rattle.fp_prices_spans.specs.Spans.{ClassSpan}
use Rattle.fp_prices_gifts.specs.declared.gifts.Gift.{Gift}
use Rattle.fp_prices_gifts.specs.GiftLeaves.{KeepGiftRules}
use Rattle.fp_prices_gifts.specs.Gifts.{AreGifts}
use Rattle.fp_prices_spans.specs.SpanLists.{AreSpans}
use Rattle.fp_certificate_lines.specs.Ranges.{IsGiftInRange, IsSpanInRange}
use Rattle.fp_certificate_rules.specs.Prices.{ArePaidBeside}

-- spans and gifts that stand beside one table, by which leaves can be priced, and which keep the money rule together and, by the windows
-- of a table and the initial points, the set rule; they can be written in a certificate, and pass its test
pub record AreSoundSpans (p : Problem) (table : WindowTable) (spans : List ClassSpan) (beside : List Gift) : Type 0 where
  pub list : AreSpans p spans
  pub gifts : AreGifts p beside
  pub rules : KeepGiftRules p (windows_in table) (initial_points p table.anchors) spans beside
  pub range : All (IsSpanInRange p) spans
  pub given : All (IsGiftInRange p) beside
  pub few : length spans < 2 ^ 32 - 1
  pub paid : ArePaidBeside p (windows_in table) (initial_points p table.anchors) spans beside
