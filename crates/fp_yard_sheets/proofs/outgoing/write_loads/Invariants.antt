use Rattle.std.proofs.Common.{◌≡◌, ◌++◌, drop, false, map}
use Rattle.fp_records.specs.Text.{lines_of}
use Rattle.fp_yard_sheets.specs.Freight.{member_fields}
use Rattle.fp_yard_sheets.proofs.outgoing.write_loads.Given as goal

-- the lines so far and those that are left are all of them
abbrev pub invariant-loop-leg : goal.invariant-loop-leg
invariant-loop-leg l = record {
  begun : l.line.begun ≡ false;
  text : l.line.text ++ lines_of (map (member_fields l.instance) (drop l.leg-index l.freight)) ≡ l.initial.line.text ++ lines_of (map (member_fields l.instance) l.freight);
}
