-- Gifts beside tables of prices, and what a leaf is worth by both.
use Rattle.std.specs.Prelude.{ℕ, ◌-◌, List, [], Bool, Option, slice_index_or}
use Rattle.fp_model.specs.Problem.{Problem}
use Rattle.fp_flatnet.specs.declared.window_tables.Window.{Window}
use Rattle.fp_tree.specs.declared.sides.Side.{Side}
use Rattle.fp_prices.specs.declared.leaf_prices.Kind.{Kind}
use Rattle.fp_prices.specs.declared.leaf_prices.Kind.TheVariants.{Linear, Even, Table}
use Rattle.fp_prices.specs.Shares.{ClassShare}
use Rattle.fp_prices_spans.specs.Spans.{ClassSpan}
use Rattle.fp_prices_spans.specs.SpanKinds.{spans_beside}
use Rattle.fp_prices_gifts.specs.declared.gifts.Gift.{Gift}
use Rattle.fp_prices_gifts.specs.GiftLeaves.{IsGiftLeafValue}

-- the gifts beside the table with a number, counted from 1; none where there is no list for it
abbrev pub gifts_of_table : List (List Gift) → ℕ → List Gift
gifts_of_table gifts id = slice_index_or gifts (id - 1) []

-- the gifts beside the table that a kind of prices names, and none beside linear and even prices
abbrev pub gifts_beside : List (List Gift) → Kind → List Gift
gifts_beside gifts Linear = []
gifts_beside gifts Even = []
gifts_beside gifts (Table id) = gifts_of_table gifts id

-- the value of a leaf by a kind of prices, with the spans and the gifts beside the table that it names
abbrev pub IsPricedValue : Problem → (windows : ℕ → ℕ → Option Window) → (points : ℕ → List ℕ) → List Side → (tables : List (List ClassShare)) → (spans : List (List ClassSpan)) → (gifts : List (List Gift)) → Kind → Bool → ℕ → Type 0
IsPricedValue p windows points sides tables spans gifts kind forced value =
    IsGiftLeafValue p windows points sides tables (spans_beside spans kind) (gifts_beside gifts kind) kind forced value
