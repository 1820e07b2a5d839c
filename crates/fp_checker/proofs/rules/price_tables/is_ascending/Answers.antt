use Rattle.std.proofs.Common.{◌≡◌, sym, ◌∙◌, subst}
use Rattle.std.proofs.lemmas.Bool.{false≢true}
use Rattle.fp_prices.specs.Tables.{IsAscendingTable}
use Rattle.fp_checker.proofs.rules.price_tables.is_ascending.Goals as goal

pub returns-then-shares_ascend : goal.returns-then-shares_ascend
returns-then-shares_ascend c =
    let is : c.as_slice-shares.result.now ≡ c.args.table.now = c.as_slice-shares.ensures.value ∙ c.table.view_is in (
      λ h. subst IsAscendingTable is (record { shares = c.shares_ascend.ensures.0 c.if-shares_ascend.true; weights = c.all_weights_ascend.ensures.0 h }),
      λ are. c.all_weights_ascend.ensures.1 (subst IsAscendingTable (sym is) are).weights,
    )

pub returns-else-shares_ascend : goal.returns-else-shares_ascend
returns-else-shares_ascend c =
    let is : c.as_slice-shares.result.now ≡ c.args.table.now = c.as_slice-shares.ensures.value ∙ c.table.view_is in (
      λ h. absurd (false≢true (sym c.if-shares_ascend.false ∙ h)),
      λ are. c.shares_ascend.ensures.1 (subst IsAscendingTable (sym is) are).shares,
    )
