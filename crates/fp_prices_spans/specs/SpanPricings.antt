-- What a bound by spans asks of the prices.
use Rattle.std.specs.Prelude.{List}
use Rattle.fp_model.specs.Problem.{Problem}
use Rattle.fp_prices.specs.declared.leaf_prices.Kind.{Kind}
use Rattle.fp_prices.specs.Prices.{AllKeepRule}
use Rattle.fp_prices.specs.Shares.{ClassShare}
use Rattle.fp_prices.specs.Tables.{AreTables, HasKind}
use Rattle.fp_prices_spans.specs.declared.values.span_costs.SpanPricing.{SpanPricing}
use Rattle.fp_prices_spans.specs.ClassRanges.{IsSpannedRow}
use Rattle.fp_prices_spans.specs.SpanCosts.{HasChains}
use Rattle.fp_prices_spans.specs.SpanLists.{AreSpans}
use Rattle.fp_prices_spans.specs.Spans.{ClassSpan}

-- tables and spans by which leaves can be priced, and a kind that names one of the tables where it is by a table
pub record ArePrices (p : Problem) (tables : List (List ClassShare)) (spans : List ClassSpan) (kind : Kind) : Type 0 where
  pub are_tables : AreTables p tables
  pub has_kind : HasKind tables kind
  pub are_spans : AreSpans p spans

-- the tables keep the price rule, the leaf has chains that it counts, and the row tells which classes are priced by the spans
pub record IsSpanPricing (by_spans : SpanPricing) : Type 0 where
  pub keep : AllKeepRule by_spans.pricing.now.leaf.setting.problem by_spans.pricing.now.tables
  pub chains : HasChains by_spans.pricing.now.leaf by_spans.pricing.now.forced
  pub spans : AreSpans by_spans.pricing.now.leaf.setting.problem by_spans.spans.now
  pub row : IsSpannedRow by_spans.pricing.now by_spans.spans.now by_spans.row.now
