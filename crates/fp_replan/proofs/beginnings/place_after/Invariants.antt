use Rattle.std.proofs.Common.{◌≡◌, drop}
use Rattle.fp_replan.specs.KeptLegs.{place_after}
use Rattle.fp_replan.proofs.beginnings.place_after.Given as goal

abbrev pub invariant-loop-leg : goal.invariant-loop-leg
invariant-loop-leg l = place_after l.instance l.here (drop l.leg-index l.legs) ≡ place_after l.instance l.origin l.legs
