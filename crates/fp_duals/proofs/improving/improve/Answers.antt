use Rattle.std.proofs.Common.{subst}
use Rattle.std.specs.Prelude.{IfOk}
use Rattle.fp_flatnet.specs.Tables.{windows_in}
use Rattle.fp_longestarcs.specs.Networks.{points_in}
use Rattle.fp_prices.specs.Rounds.{LeafModel}
use Rattle.fp_prices.proofs.LeafBounds.{leaf-is}
use Rattle.fp_duals.specs.Improvements.{IsImproved}
use Rattle.fp_duals.proofs.SameImprovements.{improved-as_of}
use Rattle.fp_duals.proofs.improving.improve.Goals as goal

pub returns-clause-improved : goal.returns-clause-improved
returns-clause-improved c =
    let p = c.args.instance.now in
    let is = leaf-is p c.args.windows.now c.args.sides.now c.in_ok-network.network c.in_ok-leaf.leaf c.in_ok-network.ensures.instance c.in_ok-leaf.ensures.setting c.in_ok-leaf.ensures.sides in
    improved-as_of p (windows_in c.args.windows.now) c.args.points.now c.args.round c.in_ok-network.network.network c.args.sides.now c.args.tables.now c.improve_leaf.new.tables c.args.inherited.kind c.improve_leaf.result c.requires.belongs.valid
    c.in_ok-network.ensures.network
    (subst (λ (l : LeafModel). IfOk c.improve_leaf.result
    (IsImproved l.setting.problem (windows_in l.setting.windows) (points_in l.setting.network) l.sides c.args.tables.now c.improve_leaf.new.tables c.args.inherited.kind c.args.round)) is c.improve_leaf.ensures.improved)
