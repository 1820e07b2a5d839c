use Rattle.std.proofs.Common.{◌≡◌, ◌+◌, false, cond, length}
use Rattle.std.specs.Prelude.{sum_by}
use Rattle.fp_allowed.specs.Sweeps.{AllBelow, AreOnward, IsStableTo, left_above}
use Rattle.fp_allowed.proofs.windows_under.latest_moments.Given as goal

-- the values are good, and stable where none has changed
abbrev pub invariant-loop-changed : goal.invariant-loop-changed
invariant-loop-changed l = AreOnward l.asked l.latest.items × (l.changed ≡ false → AllBelow (IsStableTo l.asked) (length l.asked.instance.now.arcs) l.latest.items)

abbrev pub decreases-loop-changed : goal.decreases-loop-changed
decreases-loop-changed l = sum_by left_above l.latest.items + cond l.changed 1 0
