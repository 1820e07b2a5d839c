use Rattle.std.proofs.Common.{◌≡◌, ℕ, ◌+◌, ◌<◌, length, get_or, take}
use Rattle.std.specs.Prelude.{All}
use Rattle.fp_fleet.specs.Counts.{into_count, out_count}
use Rattle.fp_fleet.specs.Fits.{TurnMeets}
use Rattle.fp_fleet.proofs.rosters.take_turns.Given as goal

-- what the turns so far took is off, and they meet
abbrev pub invariant-loop-turn : goal.invariant-loop-turn
invariant-loop-turn l = record {
  lacking_long : length l.lacking ≡ length l.lines;
  idle_long : length l.idle ≡ length l.lines;
  meet : All (TurnMeets l.instance l.lines) (take l.turn-index l.turns);
  into : (m : ℕ) → m < length l.lines → get_or l.lacking m 0 + into_count (take l.turn-index l.turns) m ≡ get_or l.initial.lacking m 0;
  out : (k : ℕ) → k < length l.lines → get_or l.idle k 0 + out_count (take l.turn-index l.turns) k ≡ get_or l.initial.idle k 0;
}
