use Rattle.std.proofs.Common.{ℕ, ◌<◌, get_or}
use Rattle.fp_yard.specs.Yards.{HasCome}
use Rattle.fp_model.specs.declared.parts.Member.{Member}
use Rattle.fp_yard.proofs.yards.Yard.missing.Given as goal

-- the legs so far have come
abbrev pub invariant-loop-leg : goal.invariant-loop-leg
invariant-loop-leg l = (k : ℕ) (d : Member) → k < l.leg-index → HasCome l.self.schedule l.self.history (get_or l.leg-items k d)
