-- Tables of prices of an instance, and whether a table may be added to them.
use Rattle.std.specs.Prelude.{ℕ, ◌<◌, ◌≤◌, List, [], ◌∷◌, length, All}
use Rattle.fp_model.specs.Problem.{Problem}
use Rattle.fp_prices.specs.declared.tables.Weight.{Weight}
use Rattle.fp_prices.specs.Shares.{ClassShare}
use Rattle.fp_prices.specs.Tables.{AreTables}
use Rattle.fp_duals.specs.PriceLines.{IsInTime, line_count}

-- the arc of a share and the shipments of its weights are ones of the instance
pub record IsShareOf (p : Problem) (share : ClassShare) : Type 0 where
  pub arc : share.arc < length p.arcs
  pub weights : All (λ (w : Weight). w.shipment < length p.shipments) share.weights

-- tables of prices of an instance: in order, within the price rule, and of its arcs and shipments
pub record ArePriceTables (p : Problem) (tables : List (List ClassShare)) : Type 0 where
  pub in_order : AreTables p tables
  pub of_instance : All (All (IsShareOf p)) tables

-- a table by which leaves of the instance may be priced, which has a share and at most so many price lines
pub record IsFitTable (p : Problem) (lines : ℕ) (table : List ClassShare) : Type 0 where
  pub some : 1 ≤ length table
  pub in_time : IsInTime table
  pub few : line_count table ≤ lines
  pub prices : ArePriceTables p (table ∷ [])
