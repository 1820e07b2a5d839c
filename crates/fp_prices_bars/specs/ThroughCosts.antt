-- What it costs a shipment at a leaf under prices by spans to go by a class.
use Rattle.std.specs.Prelude.{ℕ, ◌*◌, ◌^◌, ◌≡◌, ◌<◌, ◌≤◌, List, length, All, Option, IfSome, MatchOption}
use Rattle.fp_labels.specs.ThroughWalks.{IsLeastThrough}
use Rattle.fp_labels.specs.Walks.{cost_of}
use Rattle.fp_model.specs.declared.parts.Leg.{Leg}
use Rattle.fp_model.specs.Numbered.{shipment_at}
use Rattle.fp_model.specs.Problem.{Problem}
use Rattle.fp_longestarcs.specs.Networks.{TimedNetwork, class_count, point_count}
use Rattle.fp_allowed.specs.Listing.{class_at}
use Rattle.fp_prices.specs.LeafPricings.{AreChainsOf, PricingModel, allowed_at}
use Rattle.fp_prices.specs.Points.{edges_by, edges_of, first_node, last_node}
use Rattle.fp_prices_spans.specs.Spans.{ClassSpan}
use Rattle.fp_prices_spans.specs.SpanBars.{HasNoWalkThrough, IsLeastCostThrough}
use Rattle.fp_prices_spans.specs.SpanCosts.{heads_at, span_prices_at}

-- for each edge of the graph by heads, the least cost of a walk from the origin's first point to the destination's last that has the edge, for
-- the shipment with the number k
pub record AreThroughEdges (p : Problem) (net : TimedNetwork) (heads : Leg → ℕ) (k : ℕ) (costs through : List (Option ℕ)) : Type 0 where
  pub len : length through ≡ length (edges_of p net)
  pub exact : (e : ℕ) → e < length (edges_of p net) →
      IsLeastThrough (edges_by p net heads) costs (first_node net (shipment_at p k).from) (last_node net (shipment_at p k).to) e (cost_of through e)
  pub small : (most : ℕ) → All (λ o. IfSome o (λ n. n ≤ most)) costs → All (λ o. IfSome o (λ n. n ≤ 2 * point_count net * most)) through

-- for each class, by its number, the least cost of the walks of the shipment with the number k by the leaf's heads that have it, or that there
-- are none
abbrev pub AreThroughBySpans : PricingModel → List ClassSpan → ℕ → List (Option ℕ) → Type 0
AreThroughBySpans m spans k through =
    (chains : List (List Leg)) → AreChainsOf m.leaf m.forced chains → (n : ℕ) → n < class_count m.leaf.setting.network →
    MatchOption (cost_of through n)
    (HasNoWalkThrough m.leaf.setting.problem (heads_at m.leaf spans k) (allowed_at m.leaf k) (shipment_at m.leaf.setting.problem k) (class_at m.leaf.setting.network n))
    (IsLeastCostThrough m.leaf.setting.problem (heads_at m.leaf spans k) (allowed_at m.leaf k) (shipment_at m.leaf.setting.problem k) (span_prices_at m spans chains k)
    (class_at m.leaf.setting.network n))

-- such a cost, if there is one, is at most 2^124
abbrev pub IsSmallThrough : Option ℕ → Type 0
IsSmallThrough cost = IfSome cost (λ n. n ≤ 2 ^ 124)
