use Rattle.std.specs.List.{AllAdjacentBelow}
use Rattle.fp_prices.specs.Shares.{ClassShare}
use Rattle.fp_base_lists.specs.Order.{Precedes}
use Rattle.fp_duals.proofs.table_tests.shares_ascend.Given as goal

-- the shares before this place are in order
abbrev pub invariant-loop-place : goal.invariant-loop-place
invariant-loop-place l = AllAdjacentBelow (λ (s t : ClassShare). Precedes s.arc s.point t.arc t.point) l.shares l.place
