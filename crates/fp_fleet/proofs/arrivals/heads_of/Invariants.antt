use Rattle.std.proofs.Common.{◌≡◌, ℕ, ◌<◌, length, get_or}
use Rattle.fp_fleet.specs.Arrivals.{IsHead}
use Rattle.fp_fleet.proofs.arrivals.heads_of.Given as goal

-- the heads so far
abbrev pub invariant-loop-terminal : goal.invariant-loop-terminal
invariant-loop-terminal l = record {
  long : length l.heads.items ≡ l.terminal;
  heads : (v : ℕ) → v < l.terminal → IsHead l.arrivals v (get_or l.heads.items v 0);
}
