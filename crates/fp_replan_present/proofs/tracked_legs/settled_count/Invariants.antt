use Rattle.std.proofs.Common.{◌≡◌, ◌≤◌, false, drop, length}
use Rattle.std.specs.List.{list_any}
use Rattle.fp_replan_present.specs.Days.{is_fixed}
use Rattle.fp_replan_present.proofs.tracked_legs.settled_count.Given as goal

abbrev pub invariant-loop-count : goal.invariant-loop-count
invariant-loop-count l = record {
  within : l.count ≤ length l.legs;
  none : list_any (is_fixed l.now) (drop l.count l.legs) ≡ false;
}

abbrev pub decreases-loop-count : goal.decreases-loop-count
decreases-loop-count l = l.count
