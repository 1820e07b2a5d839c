use Rattle.std.proofs.lemmas.Result.{IfOk-weaker}
use Rattle.fp_prices.proofs.LeafBounds.{leaf-is}
use Rattle.fp_prices_bars.proofs.SameGiftBars.{gift_bars-as_of}
use Rattle.fp_prices_bars.proofs.round_bars.gift_bars_of.Goals as goal

pub returns : goal.returns
returns c =
    let p = c.args.instance.now in
    let parts = c.args.parts.now in
    let is = leaf-is p c.args.windows.now c.args.sides.now c.in_ok-network.network c.in_ok-leaf.leaf c.in_ok-network.ensures.instance c.in_ok-leaf.ensures.setting c.in_ok-leaf.ensures.sides in
    IfOk-weaker c.gift_bars.result _ _
    (λ bars are.
    gift_bars-as_of p c.requires.fits.valid c.args.windows.now c.args.points.now parts.price.round c.in_ok-network.network.network c.in_ok-network.ensures.network c.args.sides.now parts.tables.now parts.spans.now parts.gifts.now
    c.requires.gifts.exist parts.price.kind parts.price.forced c.args.money c.in_ok-leaf.leaf is bars.items are)
    c.gift_bars.ensures
