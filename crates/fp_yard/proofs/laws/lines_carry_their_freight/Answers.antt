use Rattle.fp_yard.proofs.Departures.{aboard-own}
use Rattle.fp_yard.proofs.laws.lines_carry_their_freight.Goals as goal

pub returns : goal.returns
returns c = λ s h line k sound legal rolling. aboard-own s h line k sound legal rolling
