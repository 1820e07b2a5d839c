-- The price by tables, or one by spans that is no less.
use Rattle.std.proofs.Common.{ℕ, refl, sym, subst}
use Rattle.fp_flatnet.specs.Tables.{windows_in}
use Rattle.fp_longestarcs.specs.Networks.{points_in}
use Rattle.fp_duals_leaves.specs.Pricing.{IsEmptyFound, IsImprovedByTables, IsNoLess, IsNoLessOr, IsPriceFound}
use Rattle.fp_duals_leaves.specs.declared.pricing.Worth.{Worth}
use Rattle.fp_duals_leaves.proofs.Worths.{empty-by_linear, found-no-less, found-stays, kind-grown}
use Rattle.fp_duals_leaves.proofs.pricing.improve_further.Goals as goal

pub returns-in-Some-clause-improved : goal.returns-in-Some-clause-improved
returns-in-Some-clause-improved g c =
    let leaf = c.args.leaf.now in
    let first : Worth = record { price = c.in-Priced.price; value = c.in-Priced.value } in
    let found : IsPriceFound leaf.setting.problem (windows_in leaf.setting.windows) (points_in leaf.setting.network) leaf.sides c.improve.new.self c.args.round first c.in-Priced.walks.items =
    subst (IsImprovedByTables leaf.setting.problem (windows_in leaf.setting.windows) (points_in leaf.setting.network) leaf.sides c.improve.new.self c.args.round) c.in-Priced.is c.in_ok-improve.ensures.improved in
    found-no-less leaf.setting.problem leaf.setting.windows (points_in leaf.setting.network) leaf.sides c.spanned.new.prices c.args.round first c.in-Some.worth c.in-Priced.walks.items
    (found-stays leaf.setting.problem leaf.setting.windows (points_in leaf.setting.network) leaf.sides c.improve.new.self c.spanned.new.prices c.args.round first c.in-Priced.walks.items c.improve.ensures.grown.prices
    c.spanned.ensures.grown found)
    (subst (λ (r : ℕ). IsNoLess leaf.setting.problem (windows_in leaf.setting.windows) (points_in leaf.setting.network) leaf.sides c.spanned.new.prices r first c.in-Some.worth) found.worth.of_round
    (subst (IsNoLessOr leaf.setting.problem (windows_in leaf.setting.windows) (points_in leaf.setting.network) leaf.sides c.spanned.new.prices c.in-Priced.price.round c.args.inherited.kind first) c.in-Some.is c.in_ok-worth-in-Priced.ensures.worth))

pub returns-in-Empty-clause-improved : goal.returns-in-Empty-clause-improved
returns-in-Empty-clause-improved g c =
    let leaf = c.args.leaf.now in
    subst (IsEmptyFound leaf.setting.problem (windows_in leaf.setting.windows) (points_in leaf.setting.network) leaf.sides c.improve.new.self c.args.round) (sym c.linear.ensures)
    (empty-by_linear leaf.setting.problem leaf.setting.windows (points_in leaf.setting.network) leaf.sides c.improve.new.self c.args.round c.in-Empty.shipment
    (subst (IsImprovedByTables leaf.setting.problem (windows_in leaf.setting.windows) (points_in leaf.setting.network) leaf.sides c.improve.new.self c.args.round) c.in-Empty.is c.in_ok-improve.ensures.improved))

pub returns-in-None-clause-improved : goal.returns-in-None-clause-improved
returns-in-None-clause-improved g c =
    let leaf = c.args.leaf.now in
    let first : Worth = record { price = c.in-Priced.price; value = c.in-Priced.value } in
    let kind = c.args.inherited.kind in
    let found : IsEmptyFound leaf.setting.problem (windows_in leaf.setting.windows) (points_in leaf.setting.network) leaf.sides c.spanned.new.prices c.args.round (record { kind = kind; round = c.args.round; forced = c.args.inherited.forced }) = record {
      of_round = refl;
      kind = kind-grown leaf.setting.problem leaf.setting.windows (points_in leaf.setting.network) leaf.sides c.improve.new.self c.spanned.new.prices kind c.spanned.ensures.grown
          (kind-grown leaf.setting.problem leaf.setting.windows (points_in leaf.setting.network) leaf.sides c.args.prices.now c.improve.new.self kind c.improve.ensures.grown c.requires.kind);
      is = subst (IsNoLessOr leaf.setting.problem (windows_in leaf.setting.windows) (points_in leaf.setting.network) leaf.sides c.spanned.new.prices c.in-Priced.price.round kind first) c.in-None.is c.in_ok-worth-in-Priced.ensures.worth;
    } in
    found
