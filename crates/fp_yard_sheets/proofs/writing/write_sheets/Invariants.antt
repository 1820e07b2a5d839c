use Rattle.std.proofs.Common.{◌≡◌, ◌++◌, drop, false}
use Rattle.fp_yard_sheets.specs.Freight.{routes_of}
use Rattle.fp_records.specs.Text.{lines_of}
use Rattle.fp_yard_sheets.specs.Rows.{sheets_from}
use Rattle.fp_yard_sheets.proofs.writing.write_sheets.Given as goal

-- the lines so far and those of the terminals that are left are all of them
abbrev pub invariant-loop-terminal : goal.invariant-loop-terminal
invariant-loop-terminal l = record {
  begun : l.line.begun ≡ false;
  text : l.line.text ++ lines_of (sheets_from l.instance (routes_of l.lines l.yard.schedule) l.lines l.arrivals l.terminal (drop l.terminal l.instance.terminals))
      ≡ l.initial.line.text ++ lines_of (sheets_from l.instance (routes_of l.lines l.yard.schedule) l.lines l.arrivals 0 l.instance.terminals);
}
