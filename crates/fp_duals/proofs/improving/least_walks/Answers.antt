use Rattle.std.proofs.Common.{subst}
use Rattle.std.specs.Prelude.{IfNone}
use Rattle.fp_flatnet.specs.Tables.{windows_in}
use Rattle.fp_longestarcs.specs.Networks.{points_in}
use Rattle.fp_prices.specs.Leaves.{IsLeafEmpty}
use Rattle.fp_prices.proofs.OneValue.{leaf-value-some}
use Rattle.fp_duals.proofs.improving.least_walks.Goals as goal

pub unreachable-requires : goal.unreachable-requires
unreachable-requires c =
    let leaf = c.args.leaf.now in
    let empty : IsLeafEmpty leaf.setting.problem (windows_in leaf.setting.windows) (points_in leaf.setting.network) leaf.sides =
    subst (λ o. IfNone o (IsLeafEmpty leaf.setting.problem (windows_in leaf.setting.windows) (points_in leaf.setting.network) leaf.sides)) c.in-None.is c.in_ok-walks.ensures.none in
    leaf-value-some leaf.setting.problem (windows_in leaf.setting.windows) (points_in leaf.setting.network) leaf.sides c.args.tables.now c.args.start.kind c.args.start.forced c.args.start.value c.requires.start.value empty
