use Rattle.std.proofs.Common.{◌<◌, refl, arith}
use Rattle.fp_base_lists.proofs.Pairs.{AllPairs-from_adjacent}
use Rattle.fp_fleet.specs.declared.fleets.Begin.{Begin}
use Rattle.fp_fleet.proofs.orders.begins_ascend.Goals as goal

pub returns : goal.returns
returns c =
    (λ _. AllPairs-from_adjacent (λ (b c : Begin). b.line < c.line) (λ b c d first second. omega (arith, first, second)) c.args.begins.now c.loop-place.place c.loop-place.invariant (omega arith), λ _. refl)
