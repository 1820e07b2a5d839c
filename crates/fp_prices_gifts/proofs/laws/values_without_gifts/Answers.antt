use Rattle.fp_prices_gifts.proofs.OneGiftValue.{values-without-gifts}
use Rattle.fp_prices_gifts.proofs.laws.values_without_gifts.Goals as goal

pub returns : goal.returns
returns c = values-without-gifts
