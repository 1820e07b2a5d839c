use Rattle.std.proofs.Common.{◌≡◌, ◌≤◌, ◌*◌, ◌-◌, length}
use Rattle.fp_base_lists.specs.Below.{sum_below}
use Rattle.fp_prices.proofs.ForcedSums.{set_cost}
use Rattle.fp_prices.proofs.classes.bases.bases.Given as goal

-- the total is that of the classes before the next place
abbrev pub invariant-loop-class : goal.invariant-loop-class
invariant-loop-class l = record {
  within : l.next ≤ length l.forced.row;
  sum : l.total ≡ l.instance.scale * sum_below l.next (set_cost l.instance l.network l.forced.loads.items l.forced.row);
}

abbrev pub decreases-loop-class : goal.decreases-loop-class
decreases-loop-class l = length l.forced.row - l.next
