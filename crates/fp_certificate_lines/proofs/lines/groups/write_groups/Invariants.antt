use Rattle.std.proofs.Common.{◌≡◌, ◌++◌, drop, false, map}
use Rattle.fp_records.specs.Text.{lines_of}
use Rattle.fp_certificate_lines.specs.Rows.{group_fields}
use Rattle.fp_certificate_lines.proofs.lines.groups.write_groups.Given as goal

-- the lines so far and those that are left are all of them
abbrev pub invariant-loop-moment : goal.invariant-loop-moment
invariant-loop-moment l = record {
  begun : l.line.begun ≡ false;
  text : l.line.text ++ lines_of (map group_fields (drop l.moment-index l.groups)) ≡ l.initial.line.text ++ lines_of (map group_fields l.groups);
}
