use Rattle.std.proofs.Common.{◌≡◌, ℕ, ◌+◌, ◌<◌, length, get_or, take}
use Rattle.std.specs.Prelude.{All}
use Rattle.fp_fleet.specs.Counts.{begin_count}
use Rattle.fp_fleet.specs.Fleets.{BeginExists}
use Rattle.fp_fleet.proofs.rosters.take_begins.Given as goal

-- what the begins so far took is off, and they are of lines that exist
abbrev pub invariant-loop-begin : goal.invariant-loop-begin
invariant-loop-begin l = record {
  long : length l.lacking ≡ length l.initial.lacking;
  exist : All (BeginExists (length l.initial.lacking)) (take l.begin-index l.begins);
  left : (m : ℕ) → m < length l.initial.lacking → get_or l.lacking m 0 + begin_count (take l.begin-index l.begins) m ≡ get_or l.initial.lacking m 0;
}
