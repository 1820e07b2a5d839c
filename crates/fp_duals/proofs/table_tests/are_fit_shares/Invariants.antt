use Rattle.std.proofs.Common.{◌<◌, ◌≤◌, take}
use Rattle.std.specs.Prelude.{All, AllPairs}
use Rattle.fp_model.specs.declared.limits.TheConstants.{LATEST}
use Rattle.fp_prices.specs.declared.tables.Weight.{Weight}
use Rattle.fp_prices.specs.Shares.{ClassShare}
use Rattle.fp_duals.specs.PriceTables.{IsShareOf}
use Rattle.fp_duals.proofs.table_tests.are_fit_shares.Given as goal

-- the shares that were passed are so
abbrev pub invariant-loop-share : goal.invariant-loop-share
invariant-loop-share l = record {
  of : All (IsShareOf l.instance) (take l.share-index l.shares);
  points : All (λ (s : ClassShare). s.point ≤ LATEST) (take l.share-index l.shares);
  weights : All (λ (s : ClassShare). AllPairs (λ (v w : Weight). v.shipment < w.shipment) s.weights) (take l.share-index l.shares);
}
