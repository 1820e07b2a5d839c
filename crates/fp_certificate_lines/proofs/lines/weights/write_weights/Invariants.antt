use Rattle.std.proofs.Common.{◌≡◌, ◌++◌, drop, false, map}
use Rattle.fp_records.specs.Text.{lines_of}
use Rattle.fp_certificate_lines.specs.Rows.{weight_fields}
use Rattle.fp_certificate_lines.proofs.lines.weights.write_weights.Given as goal

-- the lines so far and those that are left are all of them
abbrev pub invariant-loop-weight : goal.invariant-loop-weight
invariant-loop-weight l = record {
  begun : l.line.begun ≡ false;
  text : l.line.text ++ lines_of (map (weight_fields l.instance) (drop l.weight-index l.weights)) ≡ l.initial.line.text ++ lines_of (map (weight_fields l.instance) l.weights);
}
