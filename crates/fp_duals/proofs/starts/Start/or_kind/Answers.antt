use Rattle.fp_flatnet.specs.Tables.{windows_in}
use Rattle.fp_longestarcs.specs.Networks.{points_in}
use Rattle.fp_duals.proofs.StartingPrices.{next-less_told, next-next_told, two-modes_told}
use Rattle.fp_duals.proofs.starts.Start.or_kind.Goals as goal

pub returns-clause-best : goal.returns-clause-best
returns-clause-best c =
    let x = c.args.tabled.now in
    two-modes_told x.leaf.setting.problem (windows_in x.leaf.setting.windows) (points_in x.leaf.setting.network) x.leaf.sides x.tables c.args.kind c.in_ok-whole.whole.value c.or_mode-2.result
    (next-less_told x c.in_ok-whole.whole c.args.kind c.or_mode-2.result c.or_mode-2.ensures.next) c.in_ok-whole.ensures.best c.or_mode-2.ensures.best

pub returns-clause-next : goal.returns-clause-next
returns-clause-next c = next-next_told c.args.tabled.now c.args.self c.in_ok-whole.whole c.args.kind c.or_mode-2.result c.in_ok-whole.ensures.next c.or_mode-2.ensures.next
