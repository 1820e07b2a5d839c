use Rattle.std.proofs.Common.{map, subst}
use Rattle.fp_model.specs.Numbered.{route_at}
use Rattle.fp_flatnet.specs.Tables.{windows_in}
use Rattle.fp_longestarcs.specs.Classes.{class_of}
use Rattle.fp_longestarcs.specs.Networks.{points_in}
use Rattle.fp_prices.specs.declared.values.bounds.LeafBound.{LeafBound}
use Rattle.fp_prices.specs.Rounds.{LeafModel}
use Rattle.fp_prices_spans.specs.SpanLeaves.{IsSpanBoundOf}
use Rattle.fp_prices_spans.proofs.LeafWays.{leaf_route-via}
use Rattle.fp_prices_gifts.proofs.GiftBounds.{gift_leaf-bounds}
use Rattle.fp_prices_gifts.proofs.OneGiftValue.{no-bound}
use Rattle.fp_prices_gifts.proofs.bounds.gift_bound.Goals as goal

pub returns-in-Empty-clause-plans : goal.returns-in-Empty-clause-plans
returns-in-Empty-clause-plans c first among rules d routes of_leaf =
    let m : LeafModel = c.args.leaf.now in
    let Is : LeafBound → Type 0 = IsSpanBoundOf m.setting.problem (windows_in m.setting.windows) (points_in m.setting.network) m.sides c.args.tables.now c.args.spans.now c.args.kind c.args.forced in
    let is = subst Is c.in-Empty.is c.in_ok-shipment.ensures.exact in
    is.none (map (class_of m.setting.problem (points_in m.setting.network) d) (route_at routes c.in-Empty.shipment))
    (leaf_route-via m.setting.problem (windows_in m.setting.windows) (points_in m.setting.network) m.sides c.args.spans.now d c.in-Empty.shipment routes is.exists of_leaf)

pub returns-in-Some-clause-plans : goal.returns-in-Some-clause-plans
returns-in-Some-clause-plans c first among rules d routes of_leaf =
    let m : LeafModel = c.args.leaf.now in
    let Is : LeafBound → Type 0 = IsSpanBoundOf m.setting.problem (windows_in m.setting.windows) (points_in m.setting.network) m.sides c.args.tables.now c.args.spans.now c.args.kind c.args.forced in
    let is = subst Is c.in-Value.is c.in_ok-shipment.ensures.exact in
    gift_leaf-bounds m.setting.problem (windows_in m.setting.windows) first (points_in m.setting.network) m.sides c.args.tables.now c.args.spans.now c.args.gifts.now c.args.kind c.args.forced
    c.in-Some.value c.in-Some.ensures.valid among c.requires.tables.rule rules
    (record { before = c.in-Value.value; plain = c.in-Some.ensures.exact.0; by_spans = is; given = c.in-Some.ensures.exact.1 }) d routes of_leaf

pub returns-in-None-clause-exact : goal.returns-in-None-clause-exact
returns-in-None-clause-exact c b =
    let m : LeafModel = c.args.leaf.now in
    let Is : LeafBound → Type 0 = IsSpanBoundOf m.setting.problem (windows_in m.setting.windows) (points_in m.setting.network) m.sides c.args.tables.now c.args.spans.now c.args.kind c.args.forced in
    no-bound m.setting.problem (windows_in m.setting.windows) (points_in m.setting.network) m.sides c.args.tables.now c.args.spans.now c.args.gifts.now c.args.kind c.args.forced c.in-Value.value
    (subst Is c.in-Value.is c.in_ok-shipment.ensures.exact) c.in-None.ensures.exact b
