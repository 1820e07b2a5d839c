use Rattle.std.proofs.Common.{take}
use Rattle.std.specs.Prelude.{All}
use Rattle.fp_prices.specs.Tables.{IsAscendingTable}
use Rattle.fp_checker.proofs.rules.price_tables.all_ascending.Given as goal

-- the tables that were passed are in order
abbrev pub invariant-loop-table : goal.invariant-loop-table
invariant-loop-table l = All IsAscendingTable (take l.table-index l.tables)
