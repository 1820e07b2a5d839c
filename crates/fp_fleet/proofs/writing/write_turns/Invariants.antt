use Rattle.std.proofs.Common.{◌≡◌, ◌++◌, drop, false, map}
use Rattle.fp_records.specs.Text.{lines_of}
use Rattle.fp_fleet.specs.Rows.{turn_fields}
use Rattle.fp_fleet.proofs.writing.write_turns.Given as goal

-- the lines so far and those that are left are all of them
abbrev pub invariant-loop-turn : goal.invariant-loop-turn
invariant-loop-turn l = record {
  begun : l.line.begun ≡ false;
  text : l.line.text ++ lines_of (map (turn_fields l.instance l.lines) (drop l.turn-index l.turns)) ≡ l.initial.line.text ++ lines_of (map (turn_fields l.instance l.lines) l.turns);
}
