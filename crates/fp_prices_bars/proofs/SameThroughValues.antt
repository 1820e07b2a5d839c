-- What a leaf is worth where a shipment is made to go by a class is the same over other lists of the same points, and so is whether some walk
-- of the shipment has the class.
use Rattle.std.proofs.Common.{ℕ, Bool, true, false, List, subst}
use Rattle.std.specs.Prelude.{MatchBool, Option, nat_eq}
use Rattle.std.specs.List.{AllZip}
use Rattle.fp_base_lists.specs.Numbered.{AllZipFrom}
use Rattle.fp_base_lists.proofs.Numbered.{AllZipFrom-weaker}
use Rattle.fp_model.specs.declared.parts.Leg.{Leg}
use Rattle.fp_model.specs.declared.parts.Shipment.{Shipment}
use Rattle.fp_model.specs.Problem.{IsValid, Problem}
use Rattle.fp_flatnet.specs.declared.window_tables.Window.{Window}
use Rattle.fp_tree.specs.declared.sides.Side.{Side}
use Rattle.fp_allowed.specs.Allowed.{is_allowed}
use Rattle.fp_allowed.specs.SamePoints.{AgreeOnPoints}
use Rattle.fp_allowed.proofs.SamePoints.{AgreeOnPoints_sym, is_allowed_same}
use Rattle.fp_prices.specs.declared.leaf_prices.Kind.{Kind}
use Rattle.fp_prices.specs.Leaves.{IsChain}
use Rattle.fp_prices.specs.Shares.{ClassShare}
use Rattle.fp_prices_spans.specs.SpanBars.{HasNoWalkThrough, IsLeastCostThrough, IsSpanValueThrough}
use Rattle.fp_prices_spans.specs.SpanLeaves.{IsChargeOf, leaf_heads}
use Rattle.fp_prices_spans.specs.SpanPrices.{leaf_span_price}
use Rattle.fp_prices_spans.specs.Spans.{ClassSpan}
use Rattle.fp_prices_spans.specs.Ways.{IsLeastCostVia, leaf_ways}
use Rattle.fp_prices_spans.proofs.LeafHeads.{leaf_walk-same}
use Rattle.fp_prices_spans.proofs.LeafWays.{leaf_via-same}

module _ (p : Problem) (valid : IsValid p) (windows : ℕ → ℕ → Option Window) (points others : ℕ → List ℕ) (same : AgreeOnPoints p points others) (sides : List Side) where
  -- the least cost of a shipment's walks is the same
  least-same : (spans : List ClassSpan) (k : ℕ) (s : Shipment) (price : Leg → ℕ) (n : ℕ) → IsLeastCostVia p (leaf_heads p windows points spans k) (leaf_ways p sides spans k) (is_allowed p windows points sides k) s price n →
      IsLeastCostVia p (leaf_heads p windows others spans k) (leaf_ways p sides spans k) (is_allowed p windows others sides k) s price n
  least-same spans k s price n least = record {
    walk = least.walk;
    is = leaf_via-same p valid points others same windows sides spans k s least.walk least.is;
    cost = least.cost;
    least = λ other is. least.least other (leaf_via-same p valid others points (AgreeOnPoints_sym p points others same) windows sides spans k s other is);
  }

-- what follows of either of two things follows of the one that a test takes
either-weaker : (b : Bool) (A B C D : Type 0) → (A → C) → (B → D) → MatchBool b A B → MatchBool b C D
either-weaker true A B C D first second is = first is
either-weaker false A B C D first second is = second is

module _ (p : Problem) (valid : IsValid p) (windows : ℕ → ℕ → Option Window) (points others : ℕ → List ℕ) (same : AgreeOnPoints p points others) (sides : List Side) (spans : List ClassSpan) (k : ℕ) where
  -- no walk has the class over these points either
  pub no_walk-same : (s : Shipment) (class : Leg) → HasNoWalkThrough p (leaf_heads p windows points spans k) (is_allowed p windows points sides k) s class →
      HasNoWalkThrough p (leaf_heads p windows others spans k) (is_allowed p windows others sides k) s class
  no_walk-same s class none = λ walk goes. none walk (leaf_walk-same p valid others points (AgreeOnPoints_sym p points others same) windows sides spans k s walk goes)

  -- or the least cost of those that have it is the same
  least_through-same : (s : Shipment) (price : Leg → ℕ) (class : Leg) (n : ℕ) → IsLeastCostThrough p (leaf_heads p windows points spans k) (is_allowed p windows points sides k) s price class n →
      IsLeastCostThrough p (leaf_heads p windows others spans k) (is_allowed p windows others sides k) s price class n
  least_through-same s price class n least = record {
    walk = least.walk;
    is = leaf_walk-same p valid points others same windows sides spans k s least.walk least.is;
    has = least.has;
    cost = least.cost;
    least = λ other goes. least.least other (leaf_walk-same p valid others points (AgreeOnPoints_sym p points others same) windows sides spans k s other goes);
  }

module _ (p : Problem) (valid : IsValid p) (windows : ℕ → ℕ → Option Window) (points others : ℕ → List ℕ) (same : AgreeOnPoints p points others) (sides : List Side) (spans : List ClassSpan) (k : ℕ) (class : Leg) where
  -- what a shipment costs over points, where the one with the number k is made to go by the class
  abbrev IsCostOver : (ℕ → List ℕ) → (price : ℕ → Shipment → Leg → ℕ) → ℕ → Shipment → ℕ → Type 0
  IsCostOver qs price j s n =
      MatchBool (nat_eq j k) (IsLeastCostThrough p (leaf_heads p windows qs spans j) (is_allowed p windows qs sides j) s (price j s) class n)
      (IsLeastCostVia p (leaf_heads p windows qs spans j) (leaf_ways p sides spans j) (is_allowed p windows qs sides j) s (price j s) n)

  cost-same : (price : ℕ → Shipment → Leg → ℕ) (j : ℕ) (s : Shipment) (n : ℕ) → IsCostOver points price j s n → IsCostOver others price j s n
  cost-same price j s n is =
      either-weaker (nat_eq j k) (IsLeastCostThrough p (leaf_heads p windows points spans j) (is_allowed p windows points sides j) s (price j s) class n)
      (IsLeastCostVia p (leaf_heads p windows points spans j) (leaf_ways p sides spans j) (is_allowed p windows points sides j) s (price j s) n)
      (IsLeastCostThrough p (leaf_heads p windows others spans j) (is_allowed p windows others sides j) s (price j s) class n)
      (IsLeastCostVia p (leaf_heads p windows others spans j) (leaf_ways p sides spans j) (is_allowed p windows others sides j) s (price j s) n)
      (least_through-same p valid windows points others same sides spans j s (price j s) class n) (least-same p valid windows points others same sides spans j s (price j s) n) is

  -- so the leaf is worth the same
  pub through_value-same : (tables : List (List ClassShare)) (kind : Kind) (forced : Bool) (value : ℕ) → IsSpanValueThrough p windows points sides tables spans kind forced k class value →
      IsSpanValueThrough p windows others sides tables spans kind forced k class value
  through_value-same tables kind forced value is =
      let e = is_allowed_same p valid points others same windows sides in
      let own : ℕ → Shipment → Leg → ℕ = λ j s. leaf_span_price p tables spans (is_allowed p windows points sides) kind is.chains j s.size in
      record {
        chains = is.chains;
        costs = is.costs;
        charges = is.charges;
        are_chains = subst (λ (allowed : ℕ → Leg → Bool). AllZipFrom (λ j. IsChain p (allowed j) forced) 0 p.shipments is.chains) e is.are_chains;
        are_least = subst (λ (allowed : ℕ → Leg → Bool). AllZipFrom (IsCostOver others (λ j s. leaf_span_price p tables spans allowed kind is.chains j s.size)) 0 p.shipments is.costs) e
            (AllZipFrom-weaker (IsCostOver points own) (IsCostOver others own) (cost-same own) 0 p.shipments is.costs is.are_least);
        are_charges = subst (λ (allowed : ℕ → Leg → Bool). AllZip (IsChargeOf p allowed is.chains) spans is.charges) e is.are_charges;
        value_is = is.value_is;
      }
