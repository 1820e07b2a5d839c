use Rattle.std.proofs.Common.{◌≡◌, take}
use Rattle.fp_base_lists.specs.Vectors.{lists_of}
use Rattle.fp_model.specs.Members.{arc_lists}
use Rattle.fp_relaxmodel.proofs.relaxed_plans.RelaxedPlan.arcs.Given as goal

-- the arcs of the walks so far
abbrev pub invariant-loop-walk : goal.invariant-loop-walk
invariant-loop-walk l = lists_of l.routes.items ≡ arc_lists (take l.walk-index l.walk-items)
