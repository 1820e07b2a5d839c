use Rattle.std.proofs.Common.{◌≡◌, [], ◌∷◌, ◌++◌, length, sym, ap, ◌∙◌, subst, arith}
use Rattle.fp_prices.specs.Tables.{AreTables}
use Rattle.fp_prices.proofs.TableAppends.{AreTables-append}
use Rattle.fp_duals.proofs.PriceLines.{tables-le-lines}
use Rattle.fp_duals.proofs.candidates.prices_by.Goals as goal

pub overflow_cast-id : goal.overflow_cast-id
overflow_cast-id c = omega (arith, tables-le-lines c.args.tables.now, c.list.ensures.within.lines, ap length c.list.ensures.same)

pub overflow_add-id : goal.overflow_add-id
overflow_add-id c = omega (arith, tables-le-lines c.args.tables.now, c.list.ensures.within.lines, ap length c.list.ensures.same)

pub bound-bound-requires-clause-tables : goal.bound-bound-requires-clause-tables
bound-bound-requires-clause-tables c =
    let p = c.args.leaf.now.setting.problem in
    let is : c.list-2.result.now ≡ c.args.tables.now ++ (c.args.table ∷ []) = c.list-2.ensures.same ∙ c.in_ok-push.ensures.ok in
    subst (AreTables p) (sym is) (AreTables-append p c.args.tables.now (c.args.table ∷ []) c.requires.tables c.requires.fit.prices.in_order)
