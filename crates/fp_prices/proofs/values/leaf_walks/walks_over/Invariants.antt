use Rattle.std.proofs.Common.{◌≡◌, length}
use Rattle.fp_longestarcs.specs.Networks.{class_count}
use Rattle.fp_prices.specs.ClassCosts.{IsFree}
use Rattle.fp_prices.proofs.PreferredWalks.{ArePreferredSoFar}
use Rattle.fp_prices.proofs.WalksSoFar.{AreWalksSoFar}
use Rattle.fp_prices.proofs.values.leaf_walks.walks_over.Given as goal

-- the walks are those of the shipments so far, the preferred ones where these are of least cost
abbrev pub invariant-loop-shipment : goal.invariant-loop-shipment
invariant-loop-shipment l = record {
  so_far : AreWalksSoFar l.over.pricing.now l.rows l.shipment l.walks.items;
  preferred : ArePreferredSoFar l.over.pricing.now l.rows l.preferred l.shipment l.walks.items;
  edges : length l.costs.items ≡ l.over.graph.now.edges;
  free : IsFree (class_count l.over.pricing.now.network.now) l.costs.items;
}
