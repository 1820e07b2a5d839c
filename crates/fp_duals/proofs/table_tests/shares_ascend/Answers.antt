use Rattle.std.proofs.Common.{refl, arith}
use Rattle.fp_prices.specs.Shares.{ClassShare}
use Rattle.fp_base_lists.specs.Order.{Precedes}
use Rattle.fp_base_lists.proofs.Order.{Precedes-trans}
use Rattle.fp_base_lists.proofs.Pairs.{AllPairs-from_adjacent}
use Rattle.fp_duals.proofs.table_tests.shares_ascend.Goals as goal

pub returns : goal.returns
returns c =
    (λ _. AllPairs-from_adjacent (λ (s t : ClassShare). Precedes s.arc s.point t.arc t.point) (λ s t u. Precedes-trans s.arc s.point t.arc t.point u.arc u.point) c.args.shares.now c.loop-place.place c.loop-place.invariant (omega arith), λ _. refl)
