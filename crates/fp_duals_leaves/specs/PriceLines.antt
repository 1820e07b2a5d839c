-- How many lines the prices of a run have when they are written, and their limit.
use Rattle.std.specs.Prelude.{ℕ, ◌+◌, ◌≡◌, ◌≤◌, List, length, sum_by}
use Rattle.fp_model.specs.Problem.{Problem}
use Rattle.fp_prices.specs.Shares.{ClassShare}
use Rattle.fp_prices_gifts.specs.declared.gifts.Gift.{Gift}
use Rattle.fp_prices_spans.specs.Spans.{ClassSpan}
use Rattle.fp_certificate_lines.specs.Lengths.{price_rows}
use Rattle.fp_certificate_lines.specs.Statements.{Statement}
use Rattle.fp_duals.specs.declared.limits.TheConstants.{MOST_PRICE_LINES}
use Rattle.fp_duals.specs.PriceLines.{line_total}

-- the lines of spans: one for each, one for each of its weights, and one for each of its groups
abbrev pub span_lines : List ClassSpan → ℕ
span_lines spans = sum_by (λ (s : ClassSpan). 1 + length s.weights + length s.groups) spans

-- the lines of gifts: one for each
abbrev pub gift_lines : List Gift → ℕ
gift_lines gifts = length gifts

-- the price lines of tables, and of the spans and the gifts beside them: of each table, each share, each span, each weight, each group of
-- a span, and each gift
abbrev pub price_lines : List (List ClassShare) → List (List ClassSpan) → List (List Gift) → ℕ
price_lines tables spans gifts = line_total tables + sum_by span_lines spans + sum_by gift_lines gifts

-- tables, spans and gifts have together at most so many price lines
abbrev pub AreFewLines : List (List ClassShare) → List (List ClassSpan) → List (List Gift) → Type 0
AreFewLines tables spans gifts = price_lines tables spans gifts ≤ MOST_PRICE_LINES

-- such tables, a list of spans and one of gifts beside each, with the number of the lines of spans and gifts
pub record AreCountedPrices (tables : List (List ClassShare)) (spans : List (List ClassSpan)) (gifts : List (List Gift)) (lines : ℕ) : Type 0 where
  pub beside : length spans ≡ length tables
  pub given : length gifts ≡ length tables
  pub counted : lines ≡ sum_by span_lines spans + sum_by gift_lines gifts
  pub few : AreFewLines tables spans gifts

-- of a certificate with a list of spans and one of gifts for each table so many lines are written
abbrev pub PriceLinesAreWritten : Type 0
PriceLinesAreWritten =
    (p : Problem) (c : Statement) → length c.spans ≡ length c.tables → length c.gifts ≡ length c.tables → length (price_rows p c) ≡ price_lines c.tables c.spans c.gifts
