use Rattle.std.proofs.Common.{refl, arith}
use Rattle.fp_base_lists.specs.Order.{Precedes}
use Rattle.fp_base_lists.proofs.Order.{Precedes-trans}
use Rattle.fp_base_lists.proofs.Pairs.{AllPairs-from_adjacent}
use Rattle.fp_fleet.specs.declared.fleets.Turn.{Turn}
use Rattle.fp_fleet.proofs.orders.turns_ascend.Goals as goal

pub returns : goal.returns
returns c =
    (λ _. AllPairs-from_adjacent (λ (s t : Turn). Precedes s.before s.after t.before t.after) (λ s t u. Precedes-trans s.before s.after t.before t.after u.before u.after) c.args.turns.now c.loop-place.place c.loop-place.invariant (omega arith), λ _. refl)
