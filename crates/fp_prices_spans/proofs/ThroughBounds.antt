-- What a leaf is worth where a shipment is made to go by a class, against the plans in which it does.
use Rattle.std.proofs.Common.{◌≡◌, ◌≢◌, ℕ, ◌+◌, ◌*◌, ◌<◌, ◌≤◌, Bool, true, false, List, [], length, map, ⊎_elim, sym, subst, arith}
use Rattle.std.specs.Prelude.{Contains, MatchBool, Option, nat_eq}
use Rattle.std.proofs.lemmas.Bool.Decides.{eqb_tells}
use Rattle.fp_base_lists.specs.Numbered.{AllZipFrom}
use Rattle.fp_base_lists.proofs.Maps.{get_or-map_default}
use Rattle.fp_base_lists.proofs.Numbered.{AllZipFrom-weaker}
use Rattle.fp_model.specs.declared.parts.Leg.{Leg}
use Rattle.fp_model.specs.declared.parts.Shipment.{Shipment}
use Rattle.fp_model.specs.Costs.{flow_total}
use Rattle.fp_model.specs.Numbered.{route_at, shipment_at}
use Rattle.fp_model.specs.Problem.{IsValid, Problem}
use Rattle.fp_flatnet.specs.declared.window_tables.Window.{Window}
use Rattle.fp_longestarcs.specs.Classes.{class_of}
use Rattle.fp_tree.specs.declared.sides.Side.{Side}
use Rattle.fp_allowed.specs.Allowed.{is_allowed}
use Rattle.fp_allowed.specs.Walks.{IsWalkBy}
use Rattle.fp_prices.specs.declared.leaf_prices.Kind.{Kind}
use Rattle.fp_prices.specs.Leaves.{IsPlanOfLeaf, walk_cost}
use Rattle.fp_prices.specs.Prices.{AllKeepRule}
use Rattle.fp_prices.specs.Shares.{ClassShare}
use Rattle.fp_prices_spans.specs.MomentRuns.{AreAmong}
use Rattle.fp_prices_spans.specs.SpanBars.{HasNoWalkThrough, IsLeastCostThrough, IsSpanValueThrough}
use Rattle.fp_prices_spans.specs.SpanLeaves.{ChargedKeepSetRule, leaf_heads}
use Rattle.fp_prices_spans.specs.SpanPrices.{leaf_span_price, most_paid}
use Rattle.fp_prices_spans.specs.Spans.{ClassSpan}
use Rattle.fp_prices_spans.specs.Ways.{IsLeastCostVia, IsWalkVia, leaf_ways}
use Rattle.fp_prices_spans.proofs.LeafWays.{both-at, leaf_plan-via, leaf_route-via}
use Rattle.fp_prices_spans.proofs.SpanBounds.{limits_for, span_costs-within}

module _ (p : Problem) (windows : ℕ → ℕ → Option Window) (points : ℕ → List ℕ) (sides : List Side) (spans : List ClassSpan) (k : ℕ) (class : Leg) (d : ℕ) (plan : List (List Leg)) where
  -- the shipment goes by the class in the plan
  abbrev pub GoesThrough : Type 0
  GoesThrough = Contains (map (class_of p points d) (route_at plan k)) class

  -- where it does in a plan of the leaf, some walk of it has the class
  pub through-some : k < length p.shipments → IsPlanOfLeaf p windows sides d plan → GoesThrough →
      HasNoWalkThrough p (leaf_heads p windows points spans k) (is_allowed p windows points sides k) (shipment_at p k) class → ⊥
  through-some exists of_leaf goes none = none (map (class_of p points d) (route_at plan k)) (leaf_route-via p windows points sides spans d k plan exists of_leaf).by_heads goes

  module _ (first : ℕ → List ℕ) (tables : List (List ClassShare)) (kind : Kind) (forced : Bool) (limit : Leg → ℕ) where
    -- and where shipments pay no more for a truck of a class than a limit, the value with it made to go by the class is at most the limits
    -- for the plan's trucks, and the flow
    pub through-within : (value : ℕ) → IsValid p → AreAmong p first points → AllKeepRule p tables → (leaf : IsSpanValueThrough p windows points sides tables spans kind forced k class value) →
        ChargedKeepSetRule p windows first (is_allowed p windows points sides) leaf.chains spans → ((c : Leg) → most_paid p spans leaf.chains c ≤ limit c) → IsPlanOfLeaf p windows sides d plan → GoesThrough →
        value ≤ limits_for p limit (class_of p points d) plan + p.scale * flow_total p p.shipments plan
    through-within value valid among keep leaf sets within_limits of_leaf goes =
        let of : List Leg → List Leg = map (class_of p points d) in
        let allowed : ℕ → Leg → Bool = is_allowed p windows points sides in
        let heads : ℕ → Leg → ℕ = leaf_heads p windows points spans in
        let price : ℕ → ℕ → Leg → ℕ = λ j size. leaf_span_price p tables spans allowed kind leaf.chains j size in
        let Walks : ℕ → Shipment → List Leg → Type 0 = λ j s walk. IsWalkVia p (heads j) (leaf_ways p sides spans j) (allowed j) s walk in
        let Has : ℕ → List Leg → Type 0 = λ j walk. j ≡ k → Contains walk class in
        let Via : ℕ → Shipment → List Leg → Type 0 = λ j s walk. Walks j s walk × Has j walk in
        let IsLeast : ℕ → Shipment → ℕ → Type 0 =
        λ j s n. MatchBool (nat_eq j k) (IsLeastCostThrough p (heads j) (allowed j) s (price j s.size) class n) (IsLeastCostVia p (heads j) (leaf_ways p sides spans j) (allowed j) s (price j s.size) n) in
        let at_most : (j : ℕ) (s : Shipment) (n : ℕ) → IsLeast j s n → (walk : List Leg) → Via j s walk → n ≤ walk_cost p (price j s.size) s.size walk =
        λ j s n is walk via.
        ⊎_elim
        (λ (own : (nat_eq j k ≡ true) × (j ≡ k)).
        (subst (λ (b : Bool). MatchBool b (IsLeastCostThrough p (heads j) (allowed j) s (price j s.size) class n) (IsLeastCostVia p (heads j) (leaf_ways p sides spans j) (allowed j) s (price j s.size) n)) own.0 is).least
        walk via.0.by_heads (via.1 own.1))
        (λ (other : (nat_eq j k ≡ false) × (j ≢ k)).
        (subst (λ (b : Bool). MatchBool b (IsLeastCostThrough p (heads j) (allowed j) s (price j s.size) class n) (IsLeastCostVia p (heads j) (leaf_ways p sides spans j) (allowed j) s (price j s.size) n)) other.0 is).least
        walk via.0)
        (eqb_tells j k) in
        let along : AllZipFrom Via 0 p.shipments (map of plan) =
        both-at Walks Has [] 0 p.shipments (map of plan) (leaf_plan-via p windows points sides spans d plan of_leaf)
        (λ j h same. subst (λ (walk : List Leg). Contains walk class) (sym (get_or-map_default of plan j [])) (subst (λ (n : ℕ). Contains (of (route_at plan n)) class) (let e : k ≡ j = omega (arith, same) in e) goes)) in
        omega (
          arith,
          leaf.value_is,
          span_costs-within p windows first points sides tables spans kind forced limit leaf.chains leaf.costs leaf.charges Via valid among keep leaf.are_chains leaf.are_charges
              (AllZipFrom-weaker IsLeast (λ j (s : Shipment) n. (walk : List Leg) → Via j s walk → n ≤ walk_cost p (price j s.size) s.size walk) at_most 0 p.shipments leaf.costs leaf.are_least)
              sets within_limits d plan of_leaf along,
        )
