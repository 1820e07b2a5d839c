use Rattle.std.proofs.Common.{◌≡◌, ◌≤◌, length}
use Rattle.fp_longestarcs.specs.Networks.{class_count}
use Rattle.fp_prices.specs.ClassCosts.{IsFree}
use Rattle.fp_prices.specs.KnownCosts.{AreKnownUnder}
use Rattle.fp_prices.proofs.LeastSoFar.{AreLeastSoFar}
use Rattle.fp_prices.proofs.values.bounds.value_over.Given as goal

-- the value is that of the shipments so far
abbrev pub invariant-loop-shipment : goal.invariant-loop-shipment
invariant-loop-shipment l = record {
  so_far : AreLeastSoFar l.over.pricing.now l.rows l.bases l.shipment l.value;
  edges : length l.costs.items ≡ l.over.graph.now.edges;
  free : IsFree (class_count l.over.pricing.now.network.now) l.costs.items;
  known : AreKnownUnder l.over.pricing.now l.known.items;
  before : l.shipment ≤ length l.known.items;
}
