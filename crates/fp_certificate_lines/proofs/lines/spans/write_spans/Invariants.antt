use Rattle.std.proofs.Common.{◌≡◌, ◌++◌, drop, false}
use Rattle.std.specs.List.{flat_map}
use Rattle.fp_records.specs.Text.{lines_of}
use Rattle.fp_certificate_lines.specs.Rows.{span_rows}
use Rattle.fp_certificate_lines.proofs.lines.spans.write_spans.Given as goal

-- the lines so far and those that are left are all of them
abbrev pub invariant-loop-span : goal.invariant-loop-span
invariant-loop-span l = record {
  begun : l.line.begun ≡ false;
  text : l.line.text ++ lines_of (flat_map (span_rows l.instance) (drop l.span-index l.spans)) ≡ l.initial.line.text ++ lines_of (flat_map (span_rows l.instance) l.spans);
}
