-- What a leaf is worth by spans is the same over other lists of the same points.
use Rattle.std.proofs.Common.{ℕ, Bool, List, subst}
use Rattle.std.specs.Prelude.{Option, IfOk, Result, Ok, Err}
use Rattle.std.specs.List.{AllZip}
use Rattle.std.specs.declared.alloc.AllocError.{AllocError}
use Rattle.fp_base_lists.specs.Numbered.{AllZipFrom}
use Rattle.fp_base_lists.proofs.Numbered.{AllZipFrom-weaker}
use Rattle.fp_model.specs.declared.parts.Leg.{Leg}
use Rattle.fp_model.specs.declared.parts.Shipment.{Shipment}
use Rattle.fp_model.specs.Numbered.{shipment_at}
use Rattle.fp_model.specs.Problem.{IsValid, Problem}
use Rattle.fp_flatnet.specs.declared.window_tables.Window.{Window}
use Rattle.fp_timenodes.specs.Points.{TimePoints, points_at}
use Rattle.fp_longestarcs.specs.Networks.{TimedNetwork, points_in}
use Rattle.fp_longestarcs.specs.Whole.{IsNetworkOf}
use Rattle.fp_tree.specs.declared.sides.Side.{Side}
use Rattle.fp_allowed.specs.Allowed.{is_allowed}
use Rattle.fp_allowed.specs.SamePoints.{AgreeOnPoints}
use Rattle.fp_allowed.proofs.SamePoints.{AgreeOnPoints_sym, is_allowed_same}
use Rattle.fp_prices.specs.declared.leaf_prices.Kind.{Kind}
use Rattle.fp_prices.specs.declared.values.bounds.LeafBound.{LeafBound}
use Rattle.fp_prices.specs.declared.values.bounds.LeafBound.TheVariants.{Empty, Value}
use Rattle.fp_prices.specs.Leaves.{IsChain}
use Rattle.fp_prices.specs.Shares.{ClassShare}
use Rattle.fp_prices_spans.specs.SpanLeaves.{IsChargeOf, IsSpanBoundOf, IsSpanLeafValue, leaf_heads}
use Rattle.fp_prices_spans.specs.SpanPrices.{leaf_span_price}
use Rattle.fp_prices_spans.specs.Spans.{ClassSpan}
use Rattle.fp_prices_spans.specs.Ways.{IsLeastCostVia, IsWalkVia, leaf_ways}
use Rattle.fp_prices_spans.proofs.LeafWays.{leaf_via-same}

module _ (p : Problem) (valid : IsValid p) (windows : ℕ → ℕ → Option Window) (points others : ℕ → List ℕ) (same : AgreeOnPoints p points others) (sides : List Side) where
  least-same : (spans : List ClassSpan) (k : ℕ) (s : Shipment) (price : Leg → ℕ) (n : ℕ) → IsLeastCostVia p (leaf_heads p windows points spans k) (leaf_ways p sides spans k) (is_allowed p windows points sides k) s price n →
      IsLeastCostVia p (leaf_heads p windows others spans k) (leaf_ways p sides spans k) (is_allowed p windows others sides k) s price n
  least-same spans k s price n least = record {
    walk = least.walk;
    is = leaf_via-same p valid points others same windows sides spans k s least.walk least.is;
    cost = least.cost;
    least = λ other is. least.least other (leaf_via-same p valid others points (AgreeOnPoints_sym p points others same) windows sides spans k s other is);
  }

  pub span_value-same : (tables : List (List ClassShare)) (spans : List ClassSpan) (kind : Kind) (forced : Bool) (value : ℕ) →
      IsSpanLeafValue p windows points sides tables spans kind forced value → IsSpanLeafValue p windows others sides tables spans kind forced value
  span_value-same tables spans kind forced value is =
      let e = is_allowed_same p valid points others same windows sides in
      record {
        chains = is.chains;
        costs = is.costs;
        charges = is.charges;
        are_chains = subst (λ (allowed : ℕ → Leg → Bool). AllZipFrom (λ k. IsChain p (allowed k) forced) 0 p.shipments is.chains) e is.are_chains;
        are_least = subst
            (λ (allowed : ℕ → Leg → Bool).
            AllZipFrom (λ k (s : Shipment) n. IsLeastCostVia p (leaf_heads p windows others spans k) (leaf_ways p sides spans k) (is_allowed p windows others sides k) s (leaf_span_price p tables spans allowed kind is.chains k s.size) n) 0 p.shipments is.costs) e
            (AllZipFrom-weaker
            (λ k (s : Shipment) n. IsLeastCostVia p (leaf_heads p windows points spans k) (leaf_ways p sides spans k) (is_allowed p windows points sides k) s (leaf_span_price p tables spans (is_allowed p windows points sides) kind is.chains k s.size) n)
            (λ k (s : Shipment) n. IsLeastCostVia p (leaf_heads p windows others spans k) (leaf_ways p sides spans k) (is_allowed p windows others sides k) s (leaf_span_price p tables spans (is_allowed p windows points sides) kind is.chains k s.size) n)
            (λ k s n. least-same spans k s (leaf_span_price p tables spans (is_allowed p windows points sides) kind is.chains k s.size) n) 0 p.shipments is.costs is.are_least);
        are_charges = subst (λ (allowed : ℕ → Leg → Bool). AllZip (IsChargeOf p allowed is.chains) spans is.charges) e is.are_charges;
        value_is = is.value_is;
      }

  -- so is its bound
  pub span_bound-same : (tables : List (List ClassShare)) (spans : List ClassSpan) (kind : Kind) (forced : Bool) (bound : LeafBound) →
      IsSpanBoundOf p windows points sides tables spans kind forced bound → IsSpanBoundOf p windows others sides tables spans kind forced bound
  span_bound-same tables spans kind forced (Empty shipment) is = record {
    exists = is.exists;
    none = λ walk goes. is.none walk (back shipment walk goes);
    before = λ j below none. is.before j below (λ walk goes. none walk (leaf_via-same p valid points others same windows sides spans j (shipment_at p j) walk goes));
  }
    where
      back : (k : ℕ) (walk : List Leg) → IsWalkVia p (leaf_heads p windows others spans k) (leaf_ways p sides spans k) (is_allowed p windows others sides k) (shipment_at p k) walk →
          IsWalkVia p (leaf_heads p windows points spans k) (leaf_ways p sides spans k) (is_allowed p windows points sides k) (shipment_at p k) walk
      back k walk goes = leaf_via-same p valid others points (AgreeOnPoints_sym p points others same) windows sides spans k (shipment_at p k) walk goes
  span_bound-same tables spans kind forced (Value value) is = span_value-same tables spans kind forced value is

-- a bound over a network's points is one over the points as of its round
pub span_bound-as_of : (p : Problem) (valid : IsValid p) (windows : ℕ → ℕ → Option Window) (v : TimePoints) (round : ℕ) (net : TimedNetwork) → IsNetworkOf p v round net → (sides : List Side) (tables : List (List ClassShare)) (spans : List ClassSpan)
    (kind : Kind) (forced : Bool) (r : Result LeafBound AllocError) → IfOk r (IsSpanBoundOf p windows (points_in net) sides tables spans kind forced) →
    IfOk r (IsSpanBoundOf p windows (λ terminal. points_at v terminal round) sides tables spans kind forced)
span_bound-as_of p valid windows v round net of sides tables spans kind forced (Err e) promised = tt
span_bound-as_of p valid windows v round net of sides tables spans kind forced (Ok bound) promised =
    span_bound-same p valid windows (points_in net) (λ terminal. points_at v terminal round) of.points sides tables spans kind forced bound promised
