use Rattle.std.proofs.Common.{◌≡◌, ◌++◌, drop, false, map}
use Rattle.fp_records.specs.Text.{lines_of}
use Rattle.fp_certificate_lines.specs.Rows.{leg_fields}
use Rattle.fp_certificate_lines.proofs.lines.legs.write_legs.Given as goal

-- the lines so far and those that are left are all of them
abbrev pub invariant-loop-leg : goal.invariant-loop-leg
invariant-loop-leg l = record {
  begun : l.line.begun ≡ false;
  text : l.line.text ++ lines_of (map (leg_fields l.instance) (drop l.leg-index l.legs)) ≡ l.initial.line.text ++ lines_of (map (leg_fields l.instance) l.legs);
}
