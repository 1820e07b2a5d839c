use Rattle.std.proofs.Common.{◌≡◌, ℕ, ◌≤◌, get_or, take}
use Rattle.fp_longestarcs.specs.Networks.{copy_count}
use Rattle.fp_base_lists.specs.Vectors.{lists_of}
use Rattle.fp_longestarcs.proofs.listing.count_classes.Given as goal

abbrev pub invariant-loop-arc : goal.invariant-loop-arc
invariant-loop-arc l =
    (l.next ≡ copy_count (lists_of l.points) (take l.arc l.tails)) ×
    ((k : ℕ) → k ≤ l.arc → get_or l.offsets k 0 ≡ copy_count (lists_of l.points) (take k l.tails))
