use Rattle.std.proofs.Common.{◌≡◌, ◌+◌, ◌++◌, drop, false}
use Rattle.fp_records.specs.Text.{lines_of}
use Rattle.fp_certificate_lines.specs.Rows.{tables_rows}
use Rattle.fp_certificate_lines.proofs.lines.tables.write_tables.Given as goal

-- the lines so far and those that are left are all of them
abbrev pub invariant-loop-place : goal.invariant-loop-place
invariant-loop-place l = record {
  begun : l.line.begun ≡ false;
  text : l.line.text ++ lines_of (tables_rows l.instance l.spans l.gifts l.moments (l.place + 1) (drop l.place l.tables)) ≡ l.initial.line.text ++ lines_of (tables_rows l.instance l.spans l.gifts l.moments 1 l.tables);
}
