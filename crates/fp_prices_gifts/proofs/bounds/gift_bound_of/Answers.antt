use Rattle.std.proofs.Common.{sym, subst}
use Rattle.std.specs.Prelude.{IfOk}
use Rattle.fp_model.specs.Problem.{Problem}
use Rattle.fp_flatnet.specs.Belonging.{FitsInstance}
use Rattle.fp_flatnet.specs.Tables.{windows_in}
use Rattle.fp_longestarcs.specs.Networks.{points_in}
use Rattle.fp_prices.specs.Rounds.{LeafModel}
use Rattle.fp_prices.proofs.LeafBounds.{leaf-is}
use Rattle.fp_prices_gifts.specs.GiftLeaves.{IsGiftBound}
use Rattle.fp_prices_gifts.proofs.SameGiftValues.{gift_bound-as_of}
use Rattle.fp_prices_gifts.proofs.bounds.gift_bound_of.Goals as goal

pub of-requires-2 : goal.of-requires-2
of-requires-2 c =
    subst (λ (p : Problem). FitsInstance p c.args.windows.now) (sym c.in_ok-network.ensures.instance) c.requires.fits

pub returns-clause-exact : goal.returns-clause-exact
returns-clause-exact c =
    let p = c.args.instance.now in
    let is = leaf-is p c.args.windows.now c.args.sides.now c.in_ok-network.network c.in_ok-leaf.leaf c.in_ok-network.ensures.instance c.in_ok-leaf.ensures.setting c.in_ok-leaf.ensures.sides in
    gift_bound-as_of p c.requires.fits.valid (windows_in c.args.windows.now) c.args.sides.now c.args.tables.now c.args.spans.now c.args.gifts.now c.requires.gifts.exist c.args.price.kind c.args.price.forced
    c.args.points.now c.args.price.round c.in_ok-network.network.network c.in_ok-network.ensures.network c.gift_bound.result
    (subst
    (λ (l : LeafModel).
    IfOk c.gift_bound.result (IsGiftBound l.setting.problem (windows_in l.setting.windows) (points_in l.setting.network) l.sides c.args.tables.now c.args.spans.now c.args.gifts.now c.args.price.kind c.args.price.forced)) is
    c.gift_bound.ensures.exact)
