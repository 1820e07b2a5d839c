use Rattle.std.proofs.Common.{take}
use Rattle.std.specs.Prelude.{All}
use Rattle.fp_flatnet.specs.Tables.{windows_in}
use Rattle.fp_checker.specs.Lines.{LeavesInside}
use Rattle.fp_checker.proofs.rules.plans.all_leave_inside.Given as goal

-- the legs that were passed leave within their windows
abbrev pub invariant-loop-leg : goal.invariant-loop-leg
invariant-loop-leg l = All (LeavesInside (windows_in l.windows)) (take l.leg-index l.legs)
