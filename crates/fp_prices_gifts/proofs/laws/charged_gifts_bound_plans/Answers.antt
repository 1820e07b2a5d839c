use Rattle.fp_prices_gifts.proofs.GiftBounds.{charged_gifts-bound}
use Rattle.fp_prices_gifts.proofs.laws.charged_gifts_bound_plans.Goals as goal

pub returns : goal.returns
returns c = charged_gifts-bound
