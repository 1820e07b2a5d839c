use Rattle.std.proofs.Common.{◌≡◌, length}
use Rattle.fp_longestarcs.specs.Networks.{class_count}
use Rattle.fp_prices.specs.ClassCosts.{IsFree}
use Rattle.fp_prices.specs.Points.{edges_of}
use Rattle.fp_prices_bars.proofs.ShipmentBars.{AreBarsBefore}
use Rattle.fp_prices_bars.proofs.leaf_runs.bars_over.Given as goal

-- the bars are those of the shipments so far
abbrev pub invariant-loop-shipment : goal.invariant-loop-shipment
invariant-loop-shipment l = record {
  before : AreBarsBefore l.by_spans.pricing.now l.by_spans.spans.now l.limit l.shipment l.bars.items;
  long : length l.prices.items ≡ class_count l.by_spans.pricing.now.leaf.setting.network;
  edges : length l.costs.items ≡ length (edges_of l.by_spans.pricing.now.leaf.setting.problem l.by_spans.pricing.now.leaf.setting.network);
  free : IsFree (class_count l.by_spans.pricing.now.leaf.setting.network) l.costs.items;
}
