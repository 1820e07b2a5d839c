use Rattle.std.proofs.Common.{refl, arith, ◌≤◌}
use Rattle.fp_timenodes.specs.declared.places.AddedPoint.{AddedPoint}
use Rattle.fp_base_lists.proofs.Pairs.{AllPairs-from_adjacent}
use Rattle.fp_checker.proofs.rules.added_points.rounds_ascend.Goals as goal

pub returns : goal.returns
returns c =
    (λ _. AllPairs-from_adjacent (λ (q r : AddedPoint). q.round ≤ r.round) (λ q r s first second. omega (arith, first, second)) c.args.added.now c.loop-place.place c.loop-place.invariant (omega arith), λ _. refl)
