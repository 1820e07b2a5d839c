use Rattle.std.proofs.Common.{ℕ, ◌+◌, ◌-◌, ◌≤◌, sym, subst}
use Rattle.std.specs.Int.{div_ceil}
use Rattle.std.proofs.lemmas.Result.{IfOk-weaker}
use Rattle.fp_flatnet.specs.Tables.{windows_in}
use Rattle.fp_longestarcs.specs.Networks.{points_in}
use Rattle.fp_prices.specs.Rounds.{LeafModel}
use Rattle.fp_prices_spans.specs.SpanBars.{AreSpanBars}
use Rattle.fp_prices_gifts.specs.GiftBars.{AreGiftBars}
use Rattle.fp_prices_bars.proofs.GiftBars.{gift_bars-none, gift_bars-told}
use Rattle.fp_prices_bars.proofs.leaf_bars.gift_bars.Goals as goal

pub returns-in-Some : goal.returns-in-Some
returns-in-Some c =
    let m : LeafModel = c.args.leaf.now in
    let parts = c.args.parts.now in
    let limit = c.in-Some.limit in
    IfOk-weaker c.span_bars.result _ _
    (λ bars is.
    gift_bars-told m.setting.problem (windows_in m.setting.windows) (points_in m.setting.network) m.sides parts.tables.now parts.spans.now parts.gifts.now parts.price.kind parts.price.forced c.args.money
    c.in-Some.ensures.exact.0 limit.more limit.less c.in-Some.ensures.exact.1 bars.items
    (subst
    (λ (money : ℕ).
    AreSpanBars m.setting.problem (windows_in m.setting.windows) (points_in m.setting.network) m.sides parts.tables.now parts.spans.now parts.price.kind parts.price.forced
    (λ value. money ≤ div_ceil (value + limit.more - limit.less) m.setting.problem.scale) bars.items) c.in-Some.ensures.money is))
    c.span_bars.ensures

pub returns-in-None : goal.returns-in-None
returns-in-None c =
    let m : LeafModel = c.args.leaf.now in
    let parts = c.args.parts.now in
    subst (AreGiftBars m.setting.problem (windows_in m.setting.windows) (points_in m.setting.network) m.sides parts.tables.now parts.spans.now parts.gifts.now parts.price.kind parts.price.forced c.args.money) (sym c.new.ensures.items)
    (gift_bars-none m.setting.problem (windows_in m.setting.windows) (points_in m.setting.network) m.sides parts.tables.now parts.spans.now parts.gifts.now parts.price.kind parts.price.forced c.args.money c.in-None.ensures.exact)
