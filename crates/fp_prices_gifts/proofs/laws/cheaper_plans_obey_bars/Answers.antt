use Rattle.fp_prices_gifts.proofs.BarredPlans.{cheaper_plans-obey-bars}
use Rattle.fp_prices_gifts.proofs.laws.cheaper_plans_obey_bars.Goals as goal

pub returns : goal.returns
returns c = cheaper_plans-obey-bars
