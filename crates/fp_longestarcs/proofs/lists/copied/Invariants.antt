use Rattle.std.proofs.Common.{◌≡◌, take}
use Rattle.fp_base_lists.specs.Vectors.{lists_of}
use Rattle.fp_longestarcs.proofs.lists.copied.Given as goal

abbrev pub invariant-loop-list : goal.invariant-loop-list
invariant-loop-list l = lists_of l.copies.items ≡ lists_of (take l.list-index l.lists)
