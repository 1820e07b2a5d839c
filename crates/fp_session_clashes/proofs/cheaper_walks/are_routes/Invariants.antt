use Rattle.std.proofs.Common.{ℕ, ◌<◌, List, get_or}
use Rattle.fp_base_lists.specs.Distinct.{AreDistinct}
use Rattle.fp_model.specs.declared.parts.Leg.{Leg}
use Rattle.fp_relaxmodel.specs.Terminals.{terminals_on}
use Rattle.fp_session_clashes.proofs.cheaper_walks.are_routes.Given as goal

-- no walk so far meets a terminal twice
abbrev pub invariant-loop-walk : goal.invariant-loop-walk
invariant-loop-walk l = (k : ℕ) (d : List Leg) → k < l.walk-index → AreDistinct (terminals_on l.instance (get_or l.walks k d))
