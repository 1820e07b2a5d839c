use Rattle.std.proofs.Common.{◌≡◌, Some, drop, length}
use Rattle.fp_dispatch.specs.Rising.{set_each}
use Rattle.fp_dispatch.proofs.group_numbers.number_group.Given as goal

-- the legs that are left make the table that it will be
abbrev pub invariant-loop-leg : goal.invariant-loop-leg
invariant-loop-leg l = record {
  long : length l.table ≡ length l.initial.table;
  rest : set_each l.width (drop l.leg-index l.group) (Some l.number) l.table ≡ set_each l.width l.group (Some l.number) l.initial.table;
}
