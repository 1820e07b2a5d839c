use Rattle.std.proofs.Common.{◌≡◌, ◌++◌, drop, false}
use Rattle.std.specs.List.{flat_map}
use Rattle.fp_records.specs.Text.{lines_of}
use Rattle.fp_yard_sheets.specs.Freight.{routes_of}
use Rattle.fp_yard_sheets.specs.Rows.{out_rows}
use Rattle.fp_yard_sheets.proofs.outgoing.write_outs.Given as goal

-- the lines so far and those that are left are all of them
abbrev pub invariant-loop-number : goal.invariant-loop-number
invariant-loop-number l = record {
  begun : l.line.begun ≡ false;
  text : l.line.text ++ lines_of (flat_map (out_rows l.instance (routes_of l.trucks l.yard.schedule) l.terminal) (drop l.number l.trucks))
      ≡ l.initial.line.text ++ lines_of (flat_map (out_rows l.instance (routes_of l.trucks l.yard.schedule) l.terminal) l.trucks);
}
