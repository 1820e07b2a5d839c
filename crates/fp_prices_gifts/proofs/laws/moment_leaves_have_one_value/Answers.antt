use Rattle.fp_prices_gifts.proofs.MomentLeaves.{moment_leaves-have-one-value}
use Rattle.fp_prices_gifts.proofs.laws.moment_leaves_have_one_value.Goals as goal

pub returns : goal.returns
returns c = moment_leaves-have-one-value
