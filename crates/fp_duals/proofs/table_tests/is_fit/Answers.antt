use Rattle.std.proofs.Common.{◌≡◌, ◌≤◌, List, length, sym, ◌∙◌, subst}
use Rattle.std.specs.Prelude.{All}
use Rattle.fp_prices.specs.Shares.{ClassShare}
use Rattle.fp_prices.specs.Tables.{AreCountable, IsAscendingTable}
use Rattle.fp_duals.specs.PriceLines.{IsInTime, line_count}
use Rattle.fp_duals.specs.PriceTables.{IsShareOf}
use Rattle.fp_duals.proofs.PriceTables.{countable-one, fit-told}
use Rattle.fp_duals.proofs.table_tests.is_fit.Goals as goal

pub check_tables-requires : goal.check_tables-requires
check_tables-requires c =
    let p = c.args.instance.now in
    let table = c.args.table.now in
    let view : c.as_slice-shares.result.now ≡ table = c.as_slice-shares.ensures.value ∙ c.table.view_is in
    subst (AreCountable p) (sym c.from_ref.ensures.value)
    (countable-one p table c.args.lines c.requires (subst IsInTime view c.if-not-are_fit_shares.ensures.points) (subst (λ (t : List ClassShare). line_count t ≤ c.args.lines) view c.if-not-are_few.ensures.few)
    (subst (All (IsShareOf p)) view c.if-not-are_fit_shares.ensures.of))

pub returns-then-shares_ascend : goal.returns-then-shares_ascend
returns-then-shares_ascend c =
    let p = c.args.instance.now in
    let table = c.args.table.now in
    let view : c.as_slice-shares.result.now ≡ table = c.as_slice-shares.ensures.value ∙ c.table.view_is in
    let ascends : IsAscendingTable c.as_slice-shares.result.now = record { shares = c.shares_ascend.ensures.0 c.if-shares_ascend.true; weights = c.if-not-are_fit_shares.ensures.weights } in
    fit-told p c.args.lines table c.from_ref.result.now c.check_tables.result c.is_ok.result c.is_ok.ensures.value c.from_ref.ensures.value c.check_tables.ensures.ok (subst (λ (t : List ClassShare). 1 ≤ length t) view c.if-not-are_few.ensures.some) (subst IsInTime view c.if-not-are_fit_shares.ensures.points)
    (subst (λ (t : List ClassShare). line_count t ≤ c.args.lines) view c.if-not-are_few.ensures.few) (subst (All (IsShareOf p)) view c.if-not-are_fit_shares.ensures.of) (subst IsAscendingTable view ascends)
