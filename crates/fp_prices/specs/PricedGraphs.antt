-- What the searches ask for that go over the graph of a leaf's network under the leaf's prices.
use Rattle.std.specs.Prelude.{ℕ, ◌≡◌, ◌<◌, List, length, All, Bool, Option}
use Rattle.fp_labels.specs.Labels.{IsSmallFor}
use Rattle.fp_model.specs.declared.parts.Leg.{Leg}
use Rattle.fp_model.specs.Numbered.{shipment_at}
use Rattle.fp_longestarcs.specs.Networks.{class_count, point_count}
use Rattle.fp_prices.specs.declared.graphs.priced_graphs.PricedGraph.{PricedGraph}
use Rattle.fp_prices.specs.ClassCosts.{AllowsClasses, HoldsClassCosts, IsFree}
use Rattle.fp_prices.specs.Found.{IsPricedRow}
use Rattle.fp_prices.specs.PointGraphs.{IsPointGraph}

-- the graph is that of the points, the shipment with the number k exists, there is a cost for each edge, at which each holding
-- edge is free, and a walk over all nodes has a cost that fits
pub record IsSearchOver (over : PricedGraph) (k : ℕ) (costs : List (Option ℕ)) : Type 0 where
  pub graph : IsPointGraph over.pricing.now.instance.now over.pricing.now.network.now over.graph.now
  pub shipment : k < length over.pricing.now.instance.now.shipments
  pub count : length costs ≡ over.graph.now.edges
  pub small : All (IsSmallFor (point_count over.pricing.now.network.now)) costs
  pub free : IsFree (class_count over.pricing.now.network.now) costs

-- the graph is that of the points, the row is that of the shipment with the number k, and there is a cost for each edge, at which
-- each holding edge is free
pub record IsShipmentOver (over : PricedGraph) (k : ℕ) (row : List Bool) (costs : List (Option ℕ)) : Type 0 where
  pub graph : IsPointGraph over.pricing.now.instance.now over.pricing.now.network.now over.graph.now
  pub shipment : k < length over.pricing.now.instance.now.shipments
  pub priced : IsPricedRow over.pricing.now k row
  pub long : length row ≡ class_count over.pricing.now.network.now
  pub edges : length costs ≡ over.graph.now.edges
  pub free : IsFree (class_count over.pricing.now.network.now) costs

-- what holds of the allowed classes and their prices that cost the shipment with the number k so much
abbrev pub UnderCosts : PricedGraph → ℕ → List (Option ℕ) → ((Leg → Bool) → (Leg → ℕ) → Type 0) → Type 0
UnderCosts over k costs Holds =
    (allowed : Leg → Bool) (price : Leg → ℕ) → AllowsClasses over.pricing.now.network.now allowed →
    HoldsClassCosts over.pricing.now.instance.now over.pricing.now.network.now allowed price (shipment_at over.pricing.now.instance.now k).size costs → Holds allowed price
