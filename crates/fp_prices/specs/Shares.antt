-- Tables of prices as contracts see them: a table is a list of shares. The prices by tables are this project's own.
use Rattle.std.specs.Prelude.{ℕ, List}
use Rattle.fp_prices.specs.declared.tables.Weight.{Weight}

-- the prices of one class in a table: so much for each unit of size, and a weight for each of some shipments beside
pub record ClassShare : Type 0 where
  pub arc : ℕ
  pub point : ℕ
  pub v : ℕ
  pub weights : List Weight
