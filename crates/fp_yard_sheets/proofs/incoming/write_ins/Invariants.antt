use Rattle.std.proofs.Common.{◌≡◌, ◌++◌, drop, false}
use Rattle.std.specs.List.{flat_map}
use Rattle.fp_records.specs.Text.{lines_of}
use Rattle.fp_yard_sheets.specs.Rows.{in_rows}
use Rattle.fp_yard_sheets.proofs.incoming.write_ins.Given as goal

-- the lines so far and those that are left are all of them
abbrev pub invariant-loop-arrival : goal.invariant-loop-arrival
invariant-loop-arrival l = record {
  begun : l.line.begun ≡ false;
  text : l.line.text ++ lines_of (flat_map (in_rows l.instance l.trucks l.terminal) (drop l.arrival-index l.arrivals))
      ≡ l.initial.line.text ++ lines_of (flat_map (in_rows l.instance l.trucks l.terminal) l.arrivals);
}
