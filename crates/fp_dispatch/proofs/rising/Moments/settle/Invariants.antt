use Rattle.fp_model.specs.declared.parts.Member.{Member}
use Rattle.fp_dispatch.specs.Rising.{measure, state_of}
use Rattle.fp_dispatch.specs.Tasks.{AreRisingFor}
use Rattle.fp_dispatch.proofs.rising.Moments.settle.Given as goal

-- each leg waits or is settled
abbrev pub invariant-loop-leg : goal.invariant-loop-leg
invariant-loop-leg l = AreRisingFor l.task (λ (m : Member). ⊥) (state_of l.self)

-- the room falls, or one leg fewer waits
abbrev pub decreases-loop-leg : goal.decreases-loop-leg
decreases-loop-leg l = measure l.task.groups (state_of l.self)
