use Rattle.std.specs.Prelude.{IfSome}
use Rattle.fp_session_looks.specs.Plans.{IsBelow}
use Rattle.fp_session_looks.proofs.looks.look_from.Given as goal

-- what was found so far is cheaper than the plan that the look began with
abbrev pub invariant-loop-number : goal.invariant-loop-number
invariant-loop-number g l = IfSome l.best (IsBelow l.instance l.windows l.least)
