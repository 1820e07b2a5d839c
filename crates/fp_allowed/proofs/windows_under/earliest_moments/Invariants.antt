use Rattle.std.proofs.Common.{◌≡◌, ◌+◌, false, cond, length}
use Rattle.std.specs.Prelude.{sum_by}
use Rattle.fp_allowed.specs.Sweeps.{AllBelow, AreReady, IsStableFrom, left_below}
use Rattle.fp_allowed.proofs.windows_under.earliest_moments.Given as goal

-- the values are good, and stable where none has changed
abbrev pub invariant-loop-changed : goal.invariant-loop-changed
invariant-loop-changed l = AreReady l.asked l.earliest.items × (l.changed ≡ false → AllBelow (IsStableFrom l.asked) (length l.asked.instance.now.arcs) l.earliest.items)

abbrev pub decreases-loop-changed : goal.decreases-loop-changed
decreases-loop-changed l = sum_by left_below l.earliest.items + cond l.changed 1 0
