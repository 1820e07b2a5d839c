-- Spans of prices, as contracts see them. Prices by spans are this project's own.
use Rattle.std.specs.Prelude.{ℕ, List}
use Rattle.fp_prices.specs.declared.tables.Weight.{Weight}

-- a run of the classes of an arc, from a point up to and without another, with a part of the truck's money, what is charged once, a
-- weight for each of some shipments, and the moments at which further groups begin
pub record ClassSpan : Type 0 where
  pub arc : ℕ
  pub point : ℕ
  pub until : ℕ
  pub money : ℕ
  pub charge : ℕ
  pub weights : List Weight
  pub groups : List ℕ
