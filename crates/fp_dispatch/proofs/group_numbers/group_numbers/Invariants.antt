use Rattle.std.proofs.Common.{◌≡◌, length}
use Rattle.fp_base_lists.specs.Vectors.{lists_of}
use Rattle.fp_dispatch.specs.Rising.{AreGroupNumbers}
use Rattle.fp_dispatch.proofs.group_numbers.group_numbers.Given as goal

-- the numbers of the groups so far
abbrev pub invariant-loop-number : goal.invariant-loop-number
invariant-loop-number l = record {
  long : length l.table.items ≡ l.count;
  numbers : AreGroupNumbers (lists_of l.routes) (lists_of l.groups) l.width l.number l.table.items;
}
