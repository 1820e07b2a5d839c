use Rattle.std.proofs.Common.{drop}
use Rattle.fp_yard.specs.Enabled.{AreEnabledBut}
use Rattle.fp_yard.proofs.turns.add_missing.Given as goal

-- events may be missing of the lines just after the legs that are left
abbrev pub invariant-loop-leg : goal.invariant-loop-leg
invariant-loop-leg l = AreEnabledBut l.yard.schedule l.yard.history (drop l.leg-index l.leg-items) l.events.items
