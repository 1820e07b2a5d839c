use Rattle.std.specs.List.{AllAdjacentBelow}
use Rattle.fp_timetable.specs.declared.lines.LegLine.{LegLine}
use Rattle.fp_base_lists.specs.Order.{Precedes}
use Rattle.fp_checker.proofs.rules.plans.legs_ascend.Given as goal

-- the lines before this place are in order
abbrev pub invariant-loop-place : goal.invariant-loop-place
invariant-loop-place l = AllAdjacentBelow (λ (k m : LegLine). Precedes k.depart k.shipment m.depart m.shipment) l.legs l.place
