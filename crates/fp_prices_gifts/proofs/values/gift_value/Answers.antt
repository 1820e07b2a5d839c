use Rattle.fp_longestarcs.specs.Networks.{points_in}
use Rattle.fp_prices_gifts.specs.GiftLeaves.{least_total, most_total}
use Rattle.fp_prices_gifts.proofs.GivenSums.{totals-of}
use Rattle.fp_prices_gifts.proofs.values.gift_value.Goals as goal

pub returns-in_err-least-clause-exact : goal.returns-in_err-least-clause-exact
returns-in_err-least-clause-exact c =
    let gifts = c.args.gifts.now in
    rw c.from_residual.ensures
    (λ v given.
    c.in_err-least.ensures.exact (least_total gifts given.numbers) (most_total gifts given.numbers)
    (totals-of c.args.instance.now (points_in c.args.network.now) c.args.sides.now gifts c.args.value v given))
