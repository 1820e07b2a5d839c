use Rattle.std.proofs.Common.{refl, sym, ◌∙◌, subst, arith}
use Rattle.std.specs.Prelude.{All}
use Rattle.std.proofs.lemmas.Bool.{false≢true}
use Rattle.std.proofs.lemmas.List.{take_all}
use Rattle.std.proofs.lemmas.List.Elements.{All-more}
use Rattle.fp_prices.specs.Tables.{IsAscendingTable}
use Rattle.fp_checker.proofs.rules.price_tables.all_ascending.Goals as goal

pub returns-then-not-is_ascending : goal.returns-then-not-is_ascending
returns-then-not-is_ascending c = (
  λ h. absurd (false≢true h),
  λ all. absurd (false≢true (sym c.if-not-is_ascending.true ∙ c.is_ascending.ensures.1 (subst IsAscendingTable (sym c.table-item.is) (all c.loop-table.table-index c.table-item.result (omega arith))))),
)

pub loop-table-preserved : goal.loop-table-preserved
loop-table-preserved c =
    All-more IsAscendingTable c.args.tables.now c.loop-table.table-index c.table-item.result (omega arith) c.loop-table.invariant
    (subst IsAscendingTable c.table-item.is (c.is_ascending.ensures.0 c.if-not-is_ascending.false))

pub returns : goal.returns
returns c = (λ _. subst (All IsAscendingTable) (take_all c.loop-table.table-index c.args.tables.now (omega arith)) c.loop-table.invariant, λ _. refl)
