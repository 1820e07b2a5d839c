use Rattle.std.proofs.Common.{◌≡◌, ◌+◌, ◌++◌, drop, false}
use Rattle.fp_base_lists.specs.Vectors.{lists_of}
use Rattle.fp_records.specs.Text.{lines_of}
use Rattle.fp_fleet.specs.DayRows.{truck_rows}
use Rattle.fp_fleet.proofs.day_lines.write_days.Given as goal

-- the lines so far and those of the trucks that are left are all of them
abbrev pub invariant-loop-place : goal.invariant-loop-place
invariant-loop-place l = record {
  begun : l.line.begun ≡ false;
  text : l.line.text ++ lines_of (truck_rows l.instance l.lines (l.place + 1) (drop l.place (lists_of l.days))) ≡ l.initial.line.text ++ lines_of (truck_rows l.instance l.lines 1 (lists_of l.days));
}
