-- A price of the leaf above as of its round, also where no other was found.
use Rattle.std.proofs.Common.{subst}
use Rattle.fp_longestarcs.specs.Networks.{point_count}
use Rattle.fp_allowed.specs.Settings.{Setting}
use Rattle.fp_duals_leaves.specs.Prices.{HaveGrown}
use Rattle.fp_session.specs.declared.searches.Search.{Search}
use Rattle.fp_session.proofs.EarlierPrices.{IsPriceOf-grown, leaf-setting_with}
use Rattle.fp_session.proofs.PointLimits.{few-of}
use Rattle.fp_session.proofs.children.price_below.Goals as goal

pub over-requires-clause-few : goal.over-requires-clause-few
over-requires-clause-few c = few-of c.args.search.now c.args.prices.now c.requires.search (point_count c.in_ok-network.network) c.in_ok-network.ensures.few

pub returns-clause-price : goal.returns-clause-price
returns-clause-price c =
    let s : Search = c.args.search.now in
    let setting = leaf-setting_with s c.in_ok-network.network c.in_ok-round.round c.in_ok-there.there.setting c.in_ok-round.ensures c.in_ok-there.ensures.setting in
    IsPriceOf-grown s c.args.prices.now c.steady_price.new.prices c.args.above.payload.valuation.price
    (subst (λ (x : Setting). HaveGrown x.problem x.windows c.args.prices.now c.steady_price.new.prices) setting c.steady_price.ensures.grown) c.requires.price
