use Rattle.fp_prices.proofs.OneValue.{leaves-have-one-value}
use Rattle.fp_prices.proofs.laws.leaves_have_one_value.Goals as goal

pub returns : goal.returns
returns c = leaves-have-one-value
