use Rattle.fp_prices_gifts.proofs.GiftBounds.{rules-without_gifts}
use Rattle.fp_prices_gifts.proofs.laws.rules_without_gifts.Goals as goal

pub returns : goal.returns
returns c = rules-without_gifts
