use Rattle.fp_yard.specs.Enabled.{AreEnabledBelow}
use Rattle.fp_yard.proofs.yards.Yard.enabled.Given as goal

-- the allowed events of the lines so far
abbrev pub invariant-loop-line : goal.invariant-loop-line
invariant-loop-line l = AreEnabledBelow l.self.schedule l.self.history l.line l.events.items
