-- Of two prices by spans, each no less than the one before.
use Rattle.std.proofs.Common.{ℕ, subst}
use Rattle.fp_flatnet.specs.Tables.{windows_in}
use Rattle.fp_longestarcs.specs.Networks.{points_in}
use Rattle.fp_duals_leaves.specs.Pricing.{IsNoLess, IsNoLessOr}
use Rattle.fp_duals_leaves.proofs.Worths.{no-less-round, no-less-twice}
use Rattle.fp_duals_leaves.proofs.pricing.spanned.Goals as goal

pub returns-in_ok-better-in-Some-spans-clause-worth : goal.returns-in_ok-better-in-Some-spans-clause-worth
returns-in_ok-better-in-Some-spans-clause-worth g c =
    let leaf = c.args.leaf.now in
    let one : IsNoLess leaf.setting.problem (windows_in leaf.setting.windows) (points_in leaf.setting.network) leaf.sides c.args.prices.now c.args.first.price.round c.args.first c.in-Some.worth =
    subst (IsNoLessOr leaf.setting.problem (windows_in leaf.setting.windows) (points_in leaf.setting.network) leaf.sides c.args.prices.now c.args.first.price.round c.args.inherited.kind c.args.first) c.in-Some.is c.in_ok-worth.ensures in
    no-less-twice leaf.setting.problem leaf.setting.windows (points_in leaf.setting.network) leaf.sides c.args.prices.now c.by_spans.new.prices c.args.first.price.round c.args.first c.in-Some.worth c.in_ok-better-in-Some-spans.better
    c.requires.prices c.by_spans.ensures.grown one
    (subst (λ (r : ℕ). IsNoLess leaf.setting.problem (windows_in leaf.setting.windows) (points_in leaf.setting.network) leaf.sides c.by_spans.new.prices r c.in-Some.worth c.in_ok-better-in-Some-spans.better)
    (no-less-round leaf.setting.problem leaf.setting.windows (points_in leaf.setting.network) leaf.sides c.args.prices.now c.args.first c.in-Some.worth one) c.in_ok-better-in-Some-spans.ensures.worth)
