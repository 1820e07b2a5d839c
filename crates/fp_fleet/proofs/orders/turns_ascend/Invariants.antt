use Rattle.std.specs.List.{AllAdjacentBelow}
use Rattle.fp_base_lists.specs.Order.{Precedes}
use Rattle.fp_fleet.specs.declared.fleets.Turn.{Turn}
use Rattle.fp_fleet.proofs.orders.turns_ascend.Given as goal

-- the turns before this place are in order
abbrev pub invariant-loop-place : goal.invariant-loop-place
invariant-loop-place l = AllAdjacentBelow (λ (s t : Turn). Precedes s.before s.after t.before t.after) l.turns l.place
