use Rattle.std.proofs.Common.{◌≡◌, ◌++◌, map, take, drop}
use Rattle.fp_timetable.specs.Order.{with_trucks}
use Rattle.fp_timetable.proofs.truck_lines.set_trucks.Given as goal

-- the lines so far have their trucks, and the others are as they were
abbrev pub invariant-loop-line : goal.invariant-loop-line
invariant-loop-line l = l.lines ≡ map (with_trucks l.instance) (take l.line-index l.fn.lines) ++ drop l.line-index l.fn.lines
