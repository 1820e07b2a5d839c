use Rattle.std.proofs.Common.{◌≡◌, ◌++◌, drop, false, map}
use Rattle.fp_records.specs.Text.{lines_of}
use Rattle.fp_certificate_lines.specs.Rows.{truck_fields}
use Rattle.fp_certificate_lines.proofs.lines.trucks.write_trucks.Given as goal

-- the lines so far and those that are left are all of them
abbrev pub invariant-loop-truck : goal.invariant-loop-truck
invariant-loop-truck l = record {
  begun : l.line.begun ≡ false;
  text : l.line.text ++ lines_of (map (truck_fields l.instance) (drop l.truck-index l.trucks)) ≡ l.initial.line.text ++ lines_of (map (truck_fields l.instance) l.trucks);
}
