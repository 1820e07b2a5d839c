use Rattle.std.proofs.Common.{◌≡◌, ◌++◌, take}
use Rattle.fp_replan.specs.KeptLegs.{places_seen}
use Rattle.fp_replan.proofs.onward.terminals_with.Given as goal

abbrev pub invariant-loop-leg : goal.invariant-loop-leg
invariant-loop-leg l = l.gone.items ≡ l.terminals ++ places_seen l.instance l.origin (take l.leg-index l.legs)
