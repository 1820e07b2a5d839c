use Rattle.std.proofs.Common.{ℕ, List, sym, subst}
use Rattle.std.proofs.lemmas.Result.{IfOk-weaker}
use Rattle.fp_flatnet.specs.Tables.{windows_in}
use Rattle.fp_timenodes.specs.Points.{points_at}
use Rattle.fp_prices.proofs.LeafBounds.{leaf-is}
use Rattle.fp_prices_gifts.specs.GiftBars.{AreMomentBars}
use Rattle.fp_prices_bars.proofs.MomentBars.{moment_bars-paid, moment_bars-unpaid}
use Rattle.fp_prices_gifts.proofs.MomentBounds.{tells-as_of}
use Rattle.fp_prices_bars.proofs.SameGiftBars.{gift_bars-as_of}
use Rattle.fp_prices_bars.proofs.round_bars.moment_bars_of.Goals as goal

pub returns-then-branch : goal.returns-then-branch
returns-then-branch c =
    let p = c.args.instance.now in
    let parts = c.args.parts.now in
    let own : ℕ → List ℕ = λ terminal. points_at c.args.points.now terminal parts.price.round in
    let table = c.in_ok-narrower.narrower in
    let is = leaf-is p table c.args.sides.now c.in_ok-network.network c.in_ok-leaf.leaf c.in_ok-network.ensures.instance c.in_ok-leaf.ensures.setting c.in_ok-leaf.ensures.sides in
    let tells = tells-as_of p c.requires.fits.valid table c.args.points.now parts.price.round c.in_ok-network.network.network c.in_ok-network.ensures.network c.args.sides.now parts.spans.now parts.price.forced
    c.in_ok-leaf.leaf is c.charged_pay.result c.charged_pay.ensures in
    IfOk-weaker c.gift_bars.result _ _
    (λ bars are.
    moment_bars-paid p (windows_in c.args.windows.now) own c.args.sides.now table c.in_ok-narrower.ensures.rows parts.tables.now parts.spans.now parts.gifts.now parts.price.kind parts.price.forced c.args.money
    c.charged_pay.result c.in_ok-charged_pay.field-0 c.in_ok-charged_pay.was tells c.if-branch.true bars.items
    (gift_bars-as_of p c.requires.fits.valid table c.args.points.now parts.price.round c.in_ok-network.network.network c.in_ok-network.ensures.network c.args.sides.now parts.tables.now parts.spans.now parts.gifts.now
    c.requires.gifts.exist parts.price.kind parts.price.forced c.args.money c.in_ok-leaf.leaf is bars.items are))
    c.gift_bars.ensures

pub returns : goal.returns
returns c =
    let p = c.args.instance.now in
    let parts = c.args.parts.now in
    let own : ℕ → List ℕ = λ terminal. points_at c.args.points.now terminal parts.price.round in
    let table = c.in_ok-narrower.narrower in
    let is = leaf-is p table c.args.sides.now c.in_ok-network.network c.in_ok-leaf.leaf c.in_ok-network.ensures.instance c.in_ok-leaf.ensures.setting c.in_ok-leaf.ensures.sides in
    let tells = tells-as_of p c.requires.fits.valid table c.args.points.now parts.price.round c.in_ok-network.network.network c.in_ok-network.ensures.network c.args.sides.now parts.spans.now parts.price.forced
    c.in_ok-leaf.leaf is c.charged_pay.result c.charged_pay.ensures in
    subst (AreMomentBars p (windows_in c.args.windows.now) own c.args.sides.now parts.tables.now parts.spans.now parts.gifts.now parts.price.kind parts.price.forced c.args.money) (sym c.new.ensures.items)
    (moment_bars-unpaid p (windows_in c.args.windows.now) own c.args.sides.now table c.in_ok-narrower.ensures.rows parts.tables.now parts.spans.now parts.gifts.now parts.price.kind parts.price.forced c.args.money
    c.charged_pay.result c.in_ok-charged_pay.field-0 c.in_ok-charged_pay.was tells c.if-branch.false)
