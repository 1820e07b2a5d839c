use Rattle.std.proofs.Common.{ℕ, ◌+◌, ◌-◌, ◌≤◌}
use Rattle.fp_allowed.specs.FreeMoments.{IsFreeFrom}
use Rattle.fp_allowed.proofs.free_moments.first_free.Given as goal

-- no free moment is before the next part
abbrev pub invariant-loop-lo : goal.invariant-loop-lo
invariant-loop-lo l = (l.at ≤ l.lo) × (l.window.lo ≤ l.lo) × ((m : ℕ) → IsFreeFrom l.window l.arc l.sides l.at m → l.lo ≤ m)

abbrev pub decreases-loop-lo : goal.decreases-loop-lo
decreases-loop-lo l = l.window.hi + 1 - l.lo
