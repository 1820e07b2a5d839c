use Rattle.std.proofs.Common.{◌≡◌, ◌++◌, drop, false, map}
use Rattle.fp_records.specs.Text.{lines_of}
use Rattle.fp_fleet.specs.Rows.{need_fields}
use Rattle.fp_fleet.proofs.writing.write_needs.Given as goal

-- the lines so far and those that are left are all of them
abbrev pub invariant-loop-need : goal.invariant-loop-need
invariant-loop-need l = record {
  begun : l.line.begun ≡ false;
  text : l.line.text ++ lines_of (map (need_fields l.instance) (drop l.need-index l.needs)) ≡ l.initial.line.text ++ lines_of (map (need_fields l.instance) l.needs);
}
