use Rattle.std.proofs.Common.{◌≡◌, ◌++◌, map, take}
use Rattle.fp_timetable.specs.Lines.{leg_line}
use Rattle.fp_timetable.proofs.leg_lines.push_route.Given as goal

-- the lines of the legs so far stand at the end
abbrev pub invariant-loop-leg : goal.invariant-loop-leg
invariant-loop-leg l = l.lines.items ≡ l.fn.lines.items ++ map (leg_line l.instance l.shipment) (take l.leg-index l.route)
