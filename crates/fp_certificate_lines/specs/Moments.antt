-- By which tables leaves are priced by moments.
use Rattle.std.specs.Prelude.{ℕ, ◌-◌, List, Bool, false, slice_index_or}
use Rattle.fp_prices.specs.declared.leaf_prices.Kind.{Kind}
use Rattle.fp_prices.specs.declared.leaf_prices.Kind.TheVariants.{Linear, Even, Table}

-- whether leaves are priced by moments by the table with a number, counted from 1; they aren't where nothing is told of it
abbrev pub moments_of_table : List Bool → ℕ → Bool
moments_of_table moments id = slice_index_or moments (id - 1) false

-- whether they are by a kind of prices, as the table that it names tells; they aren't by linear and even prices
abbrev pub by_moments : List Bool → Kind → Bool
by_moments moments Linear = false
by_moments moments Even = false
by_moments moments (Table id) = moments_of_table moments id
