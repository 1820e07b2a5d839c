use Rattle.std.proofs.Common.{◌≡◌, arith}
use Rattle.fp_flatnet.specs.Tables.{windows_in}
use Rattle.fp_longestarcs.specs.Networks.{points_in}
use Rattle.fp_duals.proofs.StartingPrices.{value-le}
use Rattle.fp_duals.proofs.starts.Start.or_mode.Goals as goal

pub returns-in-Value-clause-best : goal.returns-in-Value-clause-best
returns-in-Value-clause-best c =
    let leaf = c.args.tabled.now.leaf in
    value-le leaf.setting.problem (windows_in leaf.setting.windows) (points_in leaf.setting.network) leaf.sides c.args.tabled.now.tables c.args.kind c.args.forced c.in_ok-value.field-0 c.in-Value.value c.in_ok-value.ensures.exact
    (λ v is. let same : v ≡ c.in-Value.value = cc in omega (arith, same))

pub returns-in_default-clause-best : goal.returns-in_default-clause-best
returns-in_default-clause-best c =
    let leaf = c.args.tabled.now.leaf in
    value-le leaf.setting.problem (windows_in leaf.setting.windows) (points_in leaf.setting.network) leaf.sides c.args.tabled.now.tables c.args.kind c.args.forced c.in_ok-value.field-0 c.args.self.value c.in_ok-value.ensures.exact
    (λ v is. let same : v ≡ c.in-Value.value = cc in omega (arith, same))

pub returns-in_default-2-clause-best : goal.returns-in_default-2-clause-best
returns-in_default-2-clause-best c =
    let leaf = c.args.tabled.now.leaf in
    value-le leaf.setting.problem (windows_in leaf.setting.windows) (points_in leaf.setting.network) leaf.sides c.args.tabled.now.tables c.args.kind c.args.forced c.in_ok-value.field-0 c.args.self.value c.in_ok-value.ensures.exact
    (λ v is. let none : ⊥ = cc in absurd none)
