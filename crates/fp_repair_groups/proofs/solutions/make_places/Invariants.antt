use Rattle.std.proofs.Common.{◌≡◌}
use Rattle.fp_base_lists.specs.Vectors.{lists_of}
use Rattle.fp_repair_groups.proofs.solutions.make_places.Given as goal

abbrev pub invariant-loop-taken : goal.invariant-loop-taken
invariant-loop-taken l = lists_of l.members.items ≡ lists_of l.initial.members.items
