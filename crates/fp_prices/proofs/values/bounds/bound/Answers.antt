use Rattle.std.proofs.Common.{sym, subst}
use Rattle.std.specs.Prelude.{IfOk}
use Rattle.fp_model.specs.Problem.{Problem}
use Rattle.fp_flatnet.specs.Belonging.{FitsInstance}
use Rattle.fp_flatnet.specs.Tables.{windows_in}
use Rattle.fp_flatnet.proofs.WindowTimes.{BelongsTo-FitsInstance}
use Rattle.fp_longestarcs.specs.Networks.{points_in}
use Rattle.fp_prices.specs.Leaves.{BoundsPlans, IsBoundOf, IsSmallBound}
use Rattle.fp_prices.specs.Rounds.{LeafModel}
use Rattle.fp_prices.specs.Tables.{AreTables}
use Rattle.fp_prices.proofs.LeafBounds.{leaf-is}
use Rattle.fp_prices.proofs.SamePoints.{bound-as_of}
use Rattle.fp_prices.proofs.values.bounds.bound.Goals as goal

pub of-requires-2 : goal.of-requires-2
of-requires-2 c =
    subst (λ (p : Problem). FitsInstance p c.args.windows.now) (sym c.in_ok-network.ensures.instance) (BelongsTo-FitsInstance c.args.instance.now c.args.windows.now c.requires.belongs)

pub bound-requires-clause-tables : goal.bound-requires-clause-tables
bound-requires-clause-tables c =
    let is = leaf-is c.args.instance.now c.args.windows.now c.args.sides.now c.in_ok-network.network c.in_ok-leaf.leaf c.in_ok-network.ensures.instance c.in_ok-leaf.ensures.setting c.in_ok-leaf.ensures.sides in
    subst (λ (l : LeafModel). AreTables l.setting.problem c.args.tables.now) (sym is) c.requires.tables

pub returns-clause-exact : goal.returns-clause-exact
returns-clause-exact c =
    let p = c.args.instance.now in
    let is = leaf-is p c.args.windows.now c.args.sides.now c.in_ok-network.network c.in_ok-leaf.leaf c.in_ok-network.ensures.instance c.in_ok-leaf.ensures.setting c.in_ok-leaf.ensures.sides in
    bound-as_of p c.requires.belongs.valid (windows_in c.args.windows.now) c.args.points.now c.args.price.round c.in_ok-network.network.network c.in_ok-network.ensures.network c.args.sides.now c.args.tables.now c.args.price.kind c.args.price.forced
    c.bound.result
    (subst (λ (l : LeafModel). IfOk c.bound.result (IsBoundOf l.setting.problem (windows_in l.setting.windows) (points_in l.setting.network) l.sides c.args.tables.now c.args.price.kind c.args.price.forced)) is c.bound.ensures.exact)

pub returns-clause-plans : goal.returns-clause-plans
returns-clause-plans c =
    let is = leaf-is c.args.instance.now c.args.windows.now c.args.sides.now c.in_ok-network.network c.in_ok-leaf.leaf c.in_ok-network.ensures.instance c.in_ok-leaf.ensures.setting c.in_ok-leaf.ensures.sides in
    subst (λ (l : LeafModel). IfOk c.bound.result (BoundsPlans l.setting.problem (windows_in l.setting.windows) l.sides)) is c.bound.ensures.plans

pub returns-clause-small : goal.returns-clause-small
returns-clause-small c =
    let is = leaf-is c.args.instance.now c.args.windows.now c.args.sides.now c.in_ok-network.network c.in_ok-leaf.leaf c.in_ok-network.ensures.instance c.in_ok-leaf.ensures.setting c.in_ok-leaf.ensures.sides in
    subst (λ (l : LeafModel). IfOk c.bound.result (IsSmallBound l.setting.problem)) is c.bound.ensures.small
