use Rattle.std.proofs.Common.{◌≡◌, ◌++◌, drop, false, map}
use Rattle.fp_records.specs.Text.{lines_of}
use Rattle.fp_certificate_lines.specs.Rows.{point_fields}
use Rattle.fp_certificate_lines.proofs.lines.points.write_points.Given as goal

-- the lines so far and those that are left are all of them
abbrev pub invariant-loop-point : goal.invariant-loop-point
invariant-loop-point l = record {
  begun : l.line.begun ≡ false;
  text : l.line.text ++ lines_of (map (point_fields l.instance) (drop l.point-index l.points)) ≡ l.initial.line.text ++ lines_of (map (point_fields l.instance) l.points);
}
