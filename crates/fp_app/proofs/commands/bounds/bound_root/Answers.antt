-- The price that was found for the root, with the spans beside its table.
use Rattle.std.proofs.Common.{◌≡◌, [], List, false, sym, ap, ◌∙◌, refl, subst}
use Rattle.fp_flatnet.specs.Tables.{windows_in}
use Rattle.fp_longestarcs.specs.Networks.{points_in}
use Rattle.fp_prices.specs.Shares.{ClassShare}
use Rattle.fp_prices_spans.specs.SpanKinds.{spans_beside}
use Rattle.fp_prices_spans.specs.Spans.{ClassSpan}
use Rattle.fp_duals_leaves.specs.Pricing.{IsImprovedBy}
use Rattle.fp_duals_leaves.proofs.GrownPrices.{unit-grown}
use Rattle.fp_duals_leaves.proofs.SpansBeside.{beside-none}
use Rattle.fp_app.specs.Bounds.{IsRootBound}
use Rattle.fp_app.specs.Checks.{AreWindowsOf}
use Rattle.fp_app.proofs.RootValues.{IsPriceFound-IsRootBound, root-not_empty}
use Rattle.fp_app.proofs.commands.bounds.bound_root.Goals as goal

pub improve_root-requires-clause-prices : goal.improve_root-requires-clause-prices
improve_root-requires-clause-prices g c = c.first_prices-prices.ensures.prices c.in_ok-windows.windows

pub returns-clause-shown : goal.returns-clause-shown
returns-clause-shown g c =
    let p = c.args.instance in
    let after = c.improve_root.new.prices in
    let windows : AreWindowsOf p c.in_ok-windows.windows =
    record { exact = c.in_ok-windows.ensures.windows; unanchored = c.in_ok-windows.ensures.anchors; belongs = c.in_ok-windows.ensures.belongs } in
    let found =
    subst (IsImprovedBy p (windows_in c.in_ok-windows.windows) (points_in c.in_ok-network.network) [] after 0) c.in-Priced.is c.in_ok-price.ensures.improved in
    let bound =
    IsPriceFound-IsRootBound p c.in_ok-windows.windows c.in_ok-points.points c.in_ok-network.network after c.in-Priced.price c.in-Priced.value c.in-Priced.walks.items windows
    c.in_ok-windows.ensures.covers c.in_ok-points.ensures.begins c.in_ok-network.ensures.whole c.improve_root.ensures.grown.prices found in
    let kind = c.in-Priced.price.kind in
    let beside : c.taken_beside-spans.result.items ≡ spans_beside after.spans kind =
    c.taken_beside-spans.ensures ∙ ap (λ (lists : List (List ClassSpan)). spans_beside lists kind) c.into_parts-tables.ensures.spans in
    let listed = subst (λ (tables : List (List ClassShare)). IsRootBound p c.in-Priced.price tables (spans_beside after.spans kind) c.in-Priced.value) (sym c.into_parts-tables.ensures.tables) bound in
    let shown = subst (λ (spans : List ClassSpan). IsRootBound p c.in-Priced.price c.into_parts-tables.result.0.items spans c.in-Priced.value) (sym beside) listed in
    let without : c.args.option ≡ false → c.taken_beside-spans.result.items ≡ [] =
    λ off. beside ∙ beside-none p c.in_ok-windows.windows after kind c.improve_root.ensures.grown.prices (unit-grown p c.in_ok-windows.windows c.first_prices-prices.result after c.improve_root.ensures.grown ∙ c.first_prices-prices.ensures.without off) in
    (refl, c.requires, shown, without)

-- a plan exists, so each shipment has an allowed walk
pub unreachable-requires : goal.unreachable-requires
unreachable-requires g c =
    let none =
    subst (IsImprovedBy c.args.instance (windows_in c.in_ok-windows.windows) (points_in c.in_ok-network.network) [] c.improve_root.new.prices 0) c.in-Empty.is c.in_ok-price.ensures.improved in
    root-not_empty c.args.instance (windows_in c.in_ok-windows.windows) (points_in c.in_ok-network.network) (spans_beside c.improve_root.new.prices.spans c.in-Empty.price.kind) c.in_ok-windows.ensures.covers c.requires none.is
