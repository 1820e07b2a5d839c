use Rattle.std.proofs.Common.{◌≡◌, ◌++◌, drop, false, map}
use Rattle.fp_records.specs.Text.{lines_of}
use Rattle.fp_yard_sheets.specs.Rows.{event_fields}
use Rattle.fp_yard_sheets.proofs.events.write_events.Given as goal

-- the lines so far and those that are left are all of them
abbrev pub invariant-loop-event : goal.invariant-loop-event
invariant-loop-event l = record {
  begun : l.line.begun ≡ false;
  text : l.line.text ++ lines_of (map (event_fields l.instance l.trucks) (drop l.event-index l.log)) ≡ l.initial.line.text ++ lines_of (map (event_fields l.instance l.trucks) l.log);
}
