use Rattle.std.proofs.Common.{◌≡◌, ◌++◌, drop, false, map}
use Rattle.fp_records.specs.Text.{lines_of}
use Rattle.fp_fleet.specs.Rows.{begin_fields}
use Rattle.fp_fleet.proofs.writing.write_begins.Given as goal

-- the lines so far and those that are left are all of them
abbrev pub invariant-loop-begin : goal.invariant-loop-begin
invariant-loop-begin l = record {
  begun : l.line.begun ≡ false;
  text : l.line.text ++ lines_of (map (begin_fields l.instance l.lines) (drop l.begin-index l.begins)) ≡ l.initial.line.text ++ lines_of (map (begin_fields l.instance l.lines) l.begins);
}
