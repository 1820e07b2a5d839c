use Rattle.std.proofs.Common.{ℕ, ◌<◌}
use Rattle.fp_model.specs.Numbered.{shipment_at}
use Rattle.fp_flatnet.specs.Verdicts.{IsInTime}
use Rattle.fp_flatnet.proofs.verdicts.feasible.Given as goal

abbrev pub invariant-loop-number : goal.invariant-loop-number
invariant-loop-number l = (i : ℕ) → i < l.number → IsInTime l.instance (shipment_at l.instance i)
