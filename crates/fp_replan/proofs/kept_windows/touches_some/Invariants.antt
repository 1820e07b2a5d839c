use Rattle.std.proofs.Common.{◌≡◌, drop}
use Rattle.std.specs.List.{list_any}
use Rattle.fp_replan.specs.KeptWindows.{touches}
use Rattle.fp_replan.proofs.kept_windows.touches_some.Given as goal

abbrev pub invariant-loop-leg : goal.invariant-loop-leg
invariant-loop-leg l = list_any (touches l.instance l.number) (drop l.leg-index l.legs) ≡ list_any (touches l.instance l.number) l.legs
