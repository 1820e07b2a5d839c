use Rattle.std.proofs.Common.{◌<◌, refl, arith}
use Rattle.fp_base_lists.proofs.Pairs.{AllPairs-from_adjacent}
use Rattle.fp_fleet.specs.declared.fleets.Need.{Need}
use Rattle.fp_fleet.proofs.orders.needs_ascend.Goals as goal

pub returns : goal.returns
returns c =
    (λ _. AllPairs-from_adjacent (λ (m n : Need). m.terminal < n.terminal) (λ l m n first second. omega (arith, first, second)) c.args.needs.now c.loop-place.place c.loop-place.invariant (omega arith), λ _. refl)
