-- An improvement over other lists of the same points is the same.
use Rattle.std.proofs.Common.{◌≡◌, ℕ, ◌<◌, ◌≤◌, Bool, false, List, [], ◌∷◌, ⊎_elim, inl, inr, refl, sym, ap, ◌∙◌, subst}
use Rattle.std.specs.Prelude.{Option, IfOk, Result, Ok, Err, if◌then◌else◌}
use Rattle.std.specs.declared.alloc.AllocError.{AllocError}
use Rattle.fp_base_lists.specs.Distinct.{AreDistinct}
use Rattle.fp_base_lists.specs.Numbered.{AllZipFrom}
use Rattle.fp_base_lists.proofs.Numbered.{AllZipFrom-weaker}
use Rattle.fp_model.specs.declared.parts.Leg.{Leg}
use Rattle.fp_model.specs.declared.parts.Shipment.{Shipment}
use Rattle.fp_model.specs.Problem.{IsValid, Problem, arc_at}
use Rattle.fp_model.specs.Routes.{Leads, arcs_of}
use Rattle.fp_flatnet.specs.declared.window_tables.Window.{Window}
use Rattle.fp_timenodes.specs.Points.{TimePoints, points_at}
use Rattle.fp_longestarcs.specs.Networks.{TimedNetwork, points_in}
use Rattle.fp_longestarcs.specs.Whole.{IsNetworkOf}
use Rattle.fp_tree.specs.declared.sides.Side.{Side}
use Rattle.fp_allowed.specs.Allowed.{is_allowed}
use Rattle.fp_allowed.specs.SamePoints.{AgreeOnPoints}
use Rattle.fp_allowed.proofs.SamePoints.{AgreeOnPoints_sym, IsTimedWalk_same, head_of_same, is_allowed_same}
use Rattle.fp_prices.specs.declared.values.bounds.LeafBound.TheVariants.{Empty, Value}
use Rattle.fp_prices.specs.declared.leaf_prices.Kind.{Kind}
use Rattle.fp_prices.specs.declared.leaf_prices.Kind.TheVariants.{Even, Linear}
use Rattle.fp_prices.specs.declared.leaf_prices.LeafPrice.{LeafPrice}
use Rattle.fp_prices.specs.Leaves.{IsChain, leaf_price}
use Rattle.fp_prices.specs.LeastWalks.{AreLeastWalks, IsLeastWalk, node_entered, node_left, nodes_met, same_node}
use Rattle.fp_prices.specs.Shares.{ClassShare}
use Rattle.fp_prices.proofs.SamePoints.{bound-same}
use Rattle.fp_duals.specs.declared.improvements.Improved.{Improved}
use Rattle.fp_duals.specs.declared.improvements.Improved.TheVariants as of
use Rattle.fp_duals.specs.Improvements.{AddsTable, IsImproved, IsPriced, IsReachedChain}
use Rattle.fp_duals.specs.Starts.{EachMode, EachStart, IsStartKind}

module _ (p : Problem) (valid : IsValid p) (windows : ℕ → ℕ → Option Window) (points others : ℕ → List ℕ) (same : AgreeOnPoints p points others) (sides : List Side) where
  -- the values over the other points are such numbers too
  EachMode-same : (tables : List (List ClassShare)) (kind : Kind) (P : ℕ → Type 0) → EachMode p windows points sides tables kind P → EachMode p windows others sides tables kind P
  EachMode-same tables kind P each = λ forced value is.
      each forced value (bound-same p valid windows others points (AgreeOnPoints_sym p points others same) sides tables kind forced (Value value) is)

  EachStart-same : (tables : List (List ClassShare)) (inherited : Kind) (P : ℕ → Type 0) → EachStart p windows points sides tables inherited P → EachStart p windows others sides tables inherited P
  EachStart-same tables inherited P each = record {
    linear = EachMode-same tables Linear P each.linear;
    even = EachMode-same tables Even P each.even;
    inherited = EachMode-same tables inherited P each.inherited;
  }

  AddsTable-same : (before after : List (List ClassShare)) (inherited kind : Kind) (value : ℕ) → AddsTable p windows points sides before after inherited kind value → AddsTable p windows others sides before after inherited kind value
  AddsTable-same before after inherited kind value adds = record {
    table = adds.table;
    last = adds.last;
    some = adds.some;
    named = adds.named;
    above = EachStart-same before inherited (λ other. other < value) adds.above;
  }

  -- a walk meets the same timed nodes
  nodes_met-same : (here : ℕ × ℕ) (start there : ℕ) (walk : List Leg) → Leads p start (arcs_of walk) there → nodes_met p points here walk ≡ nodes_met p others here walk
  nodes_met-same here start there [] leads = refl
  nodes_met-same here start there (c ∷ walk) leads =
      let entered : node_entered p points c ≡ node_entered p others c = ap (λ (n : ℕ). ((arc_at p c.arc).to, n)) (head_of_same p valid points others same c leads.0) in
      let rest : nodes_met p points (node_entered p points c) walk ≡ nodes_met p others (node_entered p others c) walk =
      nodes_met-same (node_entered p points c) (arc_at p c.arc).to there walk leads.2 ∙ ap (λ (n : ℕ × ℕ). nodes_met p others n walk) entered in
      ap (λ (ns : List (ℕ × ℕ)). if same_node here (node_left p c) then here ∷ ns else here ∷ (node_left p c ∷ ns)) rest

  least-walk-same : (allowed : Leg → Bool) (s : Shipment) (price : Leg → ℕ) (walk : List Leg) → IsLeastWalk p points allowed s price walk → IsLeastWalk p others allowed s price walk
  least-walk-same allowed s price walk least = record {
    timed = IsTimedWalk_same p valid points others same allowed s walk least.timed;
    least = λ other timed. least.least other (IsTimedWalk_same p valid others points (AgreeOnPoints_sym p points others same) allowed s other timed);
    apart = subst AreDistinct (nodes_met-same (s.from, 0) s.from s.to walk least.timed.leads) least.apart;
  }

  AreLeastWalks-same : (tables : List (List ClassShare)) (kind : Kind) (forced : Bool) (walks : List (List Leg)) → AreLeastWalks p windows points sides tables kind forced walks → AreLeastWalks p windows others sides tables kind forced walks
  AreLeastWalks-same tables kind forced walks are =
      let e = is_allowed_same p valid points others same windows sides in
      record {
        chains = are.chains;
        are_chains = subst (λ (allowed : ℕ → Leg → Bool). AllZipFrom (λ k. IsChain p (allowed k) forced) 0 p.shipments are.chains) e are.are_chains;
        are_least = subst (λ (allowed : ℕ → Leg → Bool). AllZipFrom (λ k (s : Shipment) walk. IsLeastWalk p others (allowed k) s (leaf_price p tables allowed kind are.chains k s.size) walk) 0 p.shipments walks) e
            (AllZipFrom-weaker
            (λ k (s : Shipment) walk. IsLeastWalk p points (is_allowed p windows points sides k) s (leaf_price p tables (is_allowed p windows points sides) kind are.chains k s.size) walk)
            (λ k (s : Shipment) walk. IsLeastWalk p others (is_allowed p windows points sides k) s (leaf_price p tables (is_allowed p windows points sides) kind are.chains k s.size) walk)
            (λ k s walk. least-walk-same (is_allowed p windows points sides k) s (leaf_price p tables (is_allowed p windows points sides) kind are.chains k s.size) walk) 0 p.shipments walks are.are_least);
      }

  IsPriced-same : (before after : List (List ClassShare)) (inherited : Kind) (round : ℕ) (price : LeafPrice) (value : ℕ) (walks : List (List Leg)) → IsPriced p windows points sides before after inherited round price value walks →
      IsPriced p windows others sides before after inherited round price value walks
  IsPriced-same before after inherited round price value walks is = record {
    of_round = is.of_round;
    kind = is.kind;
    is_value = bound-same p valid windows points others same sides after price.kind price.forced (Value value) is.is_value;
    small = is.small;
    best = EachStart-same before inherited (λ other. other ≤ value) is.best;
    least = AreLeastWalks-same after price.kind price.forced walks is.least;
    reached = λ chains ends. is.reached chains
        (subst (λ (allowed : ℕ → Leg → Bool). AllZipFrom (λ k. IsReachedChain p (allowed k)) 0 p.shipments chains) (sym (is_allowed_same p valid points others same windows sides)) ends);
    added = ⊎_elim (λ (e : (after ≡ before) × IsStartKind inherited price.kind). inl e) (λ (a : AddsTable p windows points sides before after inherited price.kind value). inr (AddsTable-same before after inherited price.kind value a)) is.added;
  }

  pub IsImproved-same : (before after : List (List ClassShare)) (inherited : Kind) (round : ℕ) (improved : Improved) → IsImproved p windows points sides before after inherited round improved →
      IsImproved p windows others sides before after inherited round improved
  IsImproved-same before after inherited round (of.Empty shipment) is = (bound-same p valid windows points others same sides [] Linear false (Empty shipment) is.0, is.1)
  IsImproved-same before after inherited round (of.Priced price value walks) is = IsPriced-same before after inherited round price value walks.items is

-- an improvement over a network's points is one over the points as of its round
pub improved-as_of : (p : Problem) (windows : ℕ → ℕ → Option Window) (v : TimePoints) (round : ℕ) (net : TimedNetwork) (sides : List Side) (before after : List (List ClassShare)) (inherited : Kind) (r : Result Improved AllocError) →
    IsValid p → IsNetworkOf p v round net → IfOk r (IsImproved p windows (points_in net) sides before after inherited round) →
    IfOk r (IsImproved p windows (λ terminal. points_at v terminal round) sides before after inherited round)
improved-as_of p windows v round net sides before after inherited (Err e) valid made promised = tt
improved-as_of p windows v round net sides before after inherited (Ok improved) valid made promised =
    IsImproved-same p valid windows (points_in net) (λ terminal. points_at v terminal round) made.points sides before after inherited round improved promised
