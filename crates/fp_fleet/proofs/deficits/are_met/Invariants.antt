use Rattle.std.proofs.Common.{◌≡◌, ◌+◌, ◌<◌, get_or, take}
use Rattle.std.specs.Prelude.{All}
use Rattle.fp_fleet.specs.declared.fleets.Need.{Need}
use Rattle.fp_fleet.proofs.deficits.are_met.Given as goal

-- the needs so far are met
abbrev pub invariant-loop-need : goal.invariant-loop-need
invariant-loop-need l = All (λ (n : Need). (0 < n.trucks) × (get_or l.leaving n.terminal 0 ≡ get_or l.arriving n.terminal 0 + n.trucks)) (take l.need-index l.needs)
