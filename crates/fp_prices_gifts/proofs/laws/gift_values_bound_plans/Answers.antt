use Rattle.fp_prices_gifts.proofs.GiftBounds.{gift_leaf-bounds}
use Rattle.fp_prices_gifts.proofs.laws.gift_values_bound_plans.Goals as goal

pub returns : goal.returns
returns c = gift_leaf-bounds
