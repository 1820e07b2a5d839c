use Rattle.std.proofs.Common.{◌<◌, take}
use Rattle.std.specs.Prelude.{All, AllPairs}
use Rattle.fp_prices.specs.declared.tables.Weight.{Weight}
use Rattle.fp_prices.specs.Shares.{ClassShare}
use Rattle.fp_checker.proofs.rules.price_tables.all_weights_ascend.Given as goal

-- the weights of the shares that were passed are in order
abbrev pub invariant-loop-share : goal.invariant-loop-share
invariant-loop-share l = All (λ (s : ClassShare). AllPairs (λ (v w : Weight). v.shipment < w.shipment) s.weights) (take l.share-index l.shares)
