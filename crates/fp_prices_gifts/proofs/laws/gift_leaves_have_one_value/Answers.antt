use Rattle.fp_prices_gifts.proofs.OneGiftValue.{gift_leaves-have-one-value}
use Rattle.fp_prices_gifts.proofs.laws.gift_leaves_have_one_value.Goals as goal

pub returns : goal.returns
returns c = gift_leaves-have-one-value
