-- A fit table after tables of the instance.
use Rattle.std.proofs.Common.{[], ◌∷◌, sym, subst}
use Rattle.fp_duals.specs.PriceTables.{ArePriceTables}
use Rattle.fp_duals.proofs.PriceTables.{ArePriceTables-append}
use Rattle.fp_duals.proofs.run_tables.Tables.push_fit.Goals as goal

pub returns-clause-tables : goal.returns-clause-tables
returns-clause-tables c =
    subst (ArePriceTables c.args.instance.now) (sym c.in_ok-push.ensures.ok) (ArePriceTables-append c.args.instance.now c.args.self.now (c.args.table ∷ []) c.requires.tables c.if-not-is_fit.ensures.prices)
