use Rattle.std.proofs.Common.{◌≡◌, ◌++◌, drop}
use Rattle.fp_base_lists.specs.Vectors.{lists_of}
use Rattle.fp_timetable.specs.Order.{lines_from}
use Rattle.fp_timetable.proofs.leg_lines.all_lines.Given as goal

-- the lines so far and those of the routes that are left are all
abbrev pub invariant-loop-shipment : goal.invariant-loop-shipment
invariant-loop-shipment l =
    l.lines.items ++ lines_from l.instance l.shipment (lists_of (drop l.shipment l.routes)) ≡ lines_from l.instance 0 (lists_of l.routes)
