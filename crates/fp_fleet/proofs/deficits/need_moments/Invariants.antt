use Rattle.std.proofs.Common.{◌≡◌, length, get_or, take}
use Rattle.std.specs.Prelude.{All}
use Rattle.fp_fleet.specs.declared.fleets.Need.{Need}
use Rattle.fp_fleet.proofs.deficits.need_moments.Given as goal

-- the moments of the needs so far stand at their terminals
abbrev pub invariant-loop-need : goal.invariant-loop-need
invariant-loop-need l = record {
  long : length l.moments.items ≡ length l.instance.terminals;
  moments : All (λ (n : Need). get_or l.moments.items n.terminal 0 ≡ n.at) (take l.need-index l.needs);
}
