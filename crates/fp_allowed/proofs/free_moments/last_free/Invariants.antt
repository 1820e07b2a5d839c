use Rattle.std.proofs.Common.{◌+◌, ◌-◌, ◌<◌, ◌≤◌}
use Rattle.fp_allowed.specs.FreeMoments.{IsFreeUntil, IsLast}
use Rattle.fp_allowed.proofs.free_moments.last_free.Given as goal

-- the last free moment before the next part is found
abbrev pub invariant-loop-lo : goal.invariant-loop-lo
invariant-loop-lo l = (l.fn.window.lo ≤ l.lo) × IsLast (λ m. (m < l.lo) × IsFreeUntil l.fn.window l.arc l.sides l.until m) l.found

abbrev pub decreases-loop-lo : goal.decreases-loop-lo
decreases-loop-lo l = l.hi + 1 - l.lo
