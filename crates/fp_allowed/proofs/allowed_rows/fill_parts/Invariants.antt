use Rattle.std.proofs.Common.{◌+◌, ◌-◌, ◌≤◌}
use Rattle.fp_longestarcs.specs.Networks.{points_in}
use Rattle.fp_allowed.specs.Bits.{FillsArc}
use Rattle.fp_allowed.specs.Moments.{has_open}
use Rattle.fp_allowed.proofs.allowed_rows.fill_parts.Given as goal

-- the classes with an open moment before the next part are filled
abbrev pub invariant-loop-lo : goal.invariant-loop-lo
invariant-loop-lo l =
    (l.window.lo ≤ l.lo) × (l.lo ≤ l.window.hi + 1)
    × FillsArc l.network l.arc (λ c. has_open (points_in l.network l.tail) l.arc l.sides l.window.lo l.lo c.depart) l.fn.row l.row

abbrev pub decreases-loop-lo : goal.decreases-loop-lo
decreases-loop-lo l = l.window.hi + 1 - l.lo
