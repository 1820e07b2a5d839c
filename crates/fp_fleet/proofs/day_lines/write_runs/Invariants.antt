use Rattle.std.proofs.Common.{◌≡◌, ◌++◌, drop, false, map}
use Rattle.fp_records.specs.Text.{lines_of}
use Rattle.fp_fleet.specs.DayRows.{run_fields}
use Rattle.fp_fleet.proofs.day_lines.write_runs.Given as goal

-- the lines so far and those that are left are all of them
abbrev pub invariant-loop-run : goal.invariant-loop-run
invariant-loop-run l = record {
  begun : l.line.begun ≡ false;
  text : l.line.text ++ lines_of (map (run_fields l.instance l.lines) (drop l.run-index l.runs)) ≡ l.initial.line.text ++ lines_of (map (run_fields l.instance l.lines) l.runs);
}
