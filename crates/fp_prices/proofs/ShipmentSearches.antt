-- A search for the way of a shipment may go over the costs that were put in for its row.
use Rattle.std.proofs.Common.{◌≡◌, ℕ, ◌≤◌, Bool, List, length, ◌∙◌, arith}
use Rattle.std.specs.Prelude.{All, IfSome, None, Option, slice_index_or}
use Rattle.fp_longestarcs.specs.Networks.{class_count, point_count}
use Rattle.fp_prices.specs.declared.graphs.priced_graphs.PricedGraph.{PricedGraph}
use Rattle.fp_prices.specs.ClassCosts.{IsFree}
use Rattle.fp_prices.specs.PricedGraphs.{IsSearchOver, IsShipmentOver}
use Rattle.fp_prices.specs.Pricings.{HoldsLeafCosts}
use Rattle.fp_prices.proofs.ShipmentCosts.{costs-fit, costs-le_alone, most_of}

module _ (over : PricedGraph) (k : ℕ) (row : List Bool) (old new : List (Option ℕ)) (is : IsShipmentOver over k row old) (long : length new ≡ length old) where
  -- entries past the classes stay
  abbrev Stay : Type 0
  Stay = (n : ℕ) → class_count over.pricing.now.network.now ≤ n → slice_index_or new n None ≡ slice_index_or old n None

  -- so the holding edges stay free
  pub still-free : Stay → IsFree (class_count over.pricing.now.network.now) new
  still-free stay e from h = stay e from ∙ is.free e from (omega (arith, h, long))

  -- no edge costs more than what going over every arc alone costs
  pub filled-small : HoldsLeafCosts over.pricing.now k row new → Stay → All (λ (o : Option ℕ). IfSome o (λ n. n ≤ most_of over.pricing.now.instance.now k)) new
  filled-small costs stay =
      costs-le_alone over.pricing.now k row over.graph.now new is.graph is.priced is.shipment (long ∙ is.edges)
      (costs is.priced.tables is.priced.allowed is.priced.kind is.priced.chains is.priced.is is.priced.allows) (still-free stay)

  pub search-over : HoldsLeafCosts over.pricing.now k row new → Stay → IsSearchOver over k new
  search-over costs stay = record {
    graph = is.graph;
    shipment = is.shipment;
    count = long ∙ is.edges;
    small = costs-fit over.pricing.now.instance.now k (point_count over.pricing.now.network.now) new is.priced.is.valid is.shipment is.graph.few (filled-small costs stay);
    free = still-free stay;
  }
