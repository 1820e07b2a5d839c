use Rattle.std.proofs.Common.{◌≡◌, ◌-◌, ◌<◌, [], length, sym, ◌∙◌, subst, arith}
use Rattle.std.proofs.lemmas.List.{get_or_read}
use Rattle.fp_prices.specs.declared.leaf_prices.Kind.{Kind}
use Rattle.fp_prices.specs.Prices.{table_at}
use Rattle.fp_prices.specs.Pricings.{IsRuleOf}
use Rattle.fp_prices.specs.Tables.{HasKind, IsAscendingTable}
use Rattle.fp_prices.specs.declared.classes.class_prices.Rule.TheVariants.{ByShares}
use Rattle.fp_prices.proofs.classes.class_rules.rule_of.Goals as goal

pub returns-in-Table : goal.returns-in-Table
returns-in-Table c = λ allowed are.
    let tables = c.args.tables.now in
    let has = subst (HasKind tables) c.in-Table.is c.requires.kind in
    let inside : c.in-Table.id - 1 < length tables = omega (arith, has.0, has.1) in
    let table : c.deref.result.now ≡ table_at tables c.in-Table.id =
    c.deref.ensures.value ∙ c.table.view_is ∙ get_or_read tables (c.in-Table.id - 1) c.index-tables-id.result inside c.index-tables-id.is [] in
    let ascending : IsAscendingTable c.deref.result.now = subst IsAscendingTable (sym table) (c.requires.tables.ascending (c.in-Table.id - 1) [] inside) in
    subst (λ (kind : Kind). IsRuleOf c.args.instance.now c.args.network.now tables allowed kind (ByShares c.deref.result)) (sym c.in-Table.is) (table, ascending)
