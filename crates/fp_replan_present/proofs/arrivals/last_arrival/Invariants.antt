use Rattle.std.proofs.Common.{◌≡◌, drop}
use Rattle.fp_replan_present.specs.Days.{last_arrival}
use Rattle.fp_replan_present.proofs.arrivals.last_arrival.Given as goal

abbrev pub invariant-loop-leg : goal.invariant-loop-leg
invariant-loop-leg l = last_arrival l.instance l.last (drop l.leg-index l.legs) ≡ last_arrival l.instance 0 l.legs
