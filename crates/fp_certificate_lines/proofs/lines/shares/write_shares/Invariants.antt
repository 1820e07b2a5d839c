use Rattle.std.proofs.Common.{◌≡◌, ◌++◌, drop, false}
use Rattle.std.specs.List.{flat_map}
use Rattle.fp_records.specs.Text.{lines_of}
use Rattle.fp_certificate_lines.specs.Rows.{share_rows}
use Rattle.fp_certificate_lines.proofs.lines.shares.write_shares.Given as goal

-- the lines so far and those that are left are all of them
abbrev pub invariant-loop-share : goal.invariant-loop-share
invariant-loop-share l = record {
  begun : l.line.begun ≡ false;
  text : l.line.text ++ lines_of (flat_map (share_rows l.instance) (drop l.share-index l.shares)) ≡ l.initial.line.text ++ lines_of (flat_map (share_rows l.instance) l.shares);
}
