use Rattle.std.proofs.Common.{◌≡◌, ◌+◌, take}
use Rattle.std.specs.Prelude.{sum_by}
use Rattle.fp_fleet.specs.declared.fleets.Need.{Need}
use Rattle.fp_fleet.proofs.deficits.sums_to.Given as goal

-- the rest and the needs so far are the total
abbrev pub invariant-loop-need : goal.invariant-loop-need
invariant-loop-need l = l.rest + sum_by (λ (n : Need). n.trucks) (take l.need-index l.needs) ≡ l.total
