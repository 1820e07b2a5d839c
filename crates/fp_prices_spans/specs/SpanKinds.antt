-- Spans beside tables of prices, and what a leaf is worth by both.
use Rattle.std.specs.Prelude.{ℕ, ◌-◌, List, [], Bool, Option, slice_index_or}
use Rattle.fp_model.specs.Problem.{Problem}
use Rattle.fp_flatnet.specs.declared.window_tables.Window.{Window}
use Rattle.fp_tree.specs.declared.sides.Side.{Side}
use Rattle.fp_prices.specs.declared.leaf_prices.Kind.{Kind}
use Rattle.fp_prices.specs.declared.leaf_prices.Kind.TheVariants.{Linear, Even, Table}
use Rattle.fp_prices.specs.Shares.{ClassShare}
use Rattle.fp_prices_spans.specs.Spans.{ClassSpan}
use Rattle.fp_prices_spans.specs.SpanLeaves.{IsSpanLeafValue}

-- the spans beside the table with a number, counted from 1; none where there is no list for it
abbrev pub spans_of_table : List (List ClassSpan) → ℕ → List ClassSpan
spans_of_table spans id = slice_index_or spans (id - 1) []

-- the spans beside the table that a kind of prices names, and none beside linear and even prices
abbrev pub spans_beside : List (List ClassSpan) → Kind → List ClassSpan
spans_beside spans Linear = []
spans_beside spans Even = []
spans_beside spans (Table id) = spans_of_table spans id

-- the value of a leaf by a kind of prices, with the spans beside the table that it names
abbrev pub IsPricedValue : Problem → (windows : ℕ → ℕ → Option Window) → (points : ℕ → List ℕ) → List Side → (tables : List (List ClassShare)) → (spans : List (List ClassSpan)) → Kind → Bool → ℕ → Type 0
IsPricedValue p windows points sides tables spans kind forced value = IsSpanLeafValue p windows points sides tables (spans_beside spans kind) kind forced value
