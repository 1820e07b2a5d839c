-- A leaf is the same over other lists of the same points.
use Rattle.std.proofs.Common.{ℕ, Bool, List, subst}
use Rattle.std.specs.Prelude.{Option, IfOk, Result, Ok, Err}
use Rattle.fp_base_lists.proofs.Numbered.{AllZipFrom-weaker}
use Rattle.std.specs.declared.alloc.AllocError.{AllocError}
use Rattle.fp_model.specs.declared.parts.Leg.{Leg}
use Rattle.fp_model.specs.declared.parts.Shipment.{Shipment}
use Rattle.fp_model.specs.Numbered.{shipment_at}
use Rattle.fp_base_lists.specs.Numbered.{AllZipFrom}
use Rattle.fp_model.specs.Problem.{IsValid, Problem}
use Rattle.fp_flatnet.specs.declared.window_tables.Window.{Window}
use Rattle.fp_timenodes.specs.Points.{TimePoints, points_at}
use Rattle.fp_longestarcs.specs.Networks.{TimedNetwork, points_in}
use Rattle.fp_longestarcs.specs.Whole.{IsNetworkOf}
use Rattle.fp_tree.specs.declared.sides.Side.{Side}
use Rattle.fp_allowed.specs.Allowed.{is_allowed}
use Rattle.fp_allowed.specs.SamePoints.{AgreeOnPoints}
use Rattle.fp_allowed.proofs.SamePoints.{AgreeOnPoints_sym, IsTimedWalk_same, allowed_walk_same, is_allowed_same}
use Rattle.fp_prices.specs.declared.values.bounds.LeafBound.{LeafBound}
use Rattle.fp_prices.specs.declared.values.bounds.LeafBound.TheVariants.{Empty, Value}
use Rattle.fp_prices.specs.declared.leaf_prices.Kind.{Kind}
use Rattle.fp_prices.specs.Leaves.{HasNoWalk, IsBoundOf, IsChain, IsLeastCost, leaf_price}
use Rattle.fp_prices.specs.Shares.{ClassShare}

module _ (p : Problem) (valid : IsValid p) where
  least-same : (points others : ℕ → List ℕ) → AgreeOnPoints p points others → (allowed : Leg → Bool) (s : Shipment) (price : Leg → ℕ) (n : ℕ) → IsLeastCost p points allowed s price n → IsLeastCost p others allowed s price n
  least-same points others same allowed s price n least = record {
    walk = least.walk;
    timed = IsTimedWalk_same p valid points others same allowed s least.walk least.timed;
    cost = least.cost;
    least = λ other timed. least.least other (IsTimedWalk_same p valid others points (AgreeOnPoints_sym p points others same) allowed s other timed);
  }

  no-walk-same : (windows : ℕ → ℕ → Option Window) (points others : ℕ → List ℕ) → AgreeOnPoints p points others → (sides : List Side) (k : ℕ) → HasNoWalk p windows points sides k → HasNoWalk p windows others sides k
  no-walk-same windows points others same sides k none = λ walk timed.
      none walk (allowed_walk_same p valid others points (AgreeOnPoints_sym p points others same) windows sides k (shipment_at p k) walk timed)

  -- so the bound of a leaf is the same
  pub bound-same : (windows : ℕ → ℕ → Option Window) (points others : ℕ → List ℕ) → AgreeOnPoints p points others → (sides : List Side) (tables : List (List ClassShare)) (kind : Kind) (forced : Bool) (bound : LeafBound) →
      IsBoundOf p windows points sides tables kind forced bound → IsBoundOf p windows others sides tables kind forced bound
  bound-same windows points others same sides tables kind forced (Empty shipment) is = record {
    exists = is.exists;
    none = no-walk-same windows points others same sides shipment is.none;
    before = λ j h none. is.before j h (no-walk-same windows others points (AgreeOnPoints_sym p points others same) sides j none);
  }
  bound-same windows points others same sides tables kind forced (Value value) is =
      let e = is_allowed_same p valid points others same windows sides in
      record {
        chains = is.chains;
        costs = is.costs;
        are_chains = subst (λ (allowed : ℕ → Leg → Bool). AllZipFrom (λ k. IsChain p (allowed k) forced) 0 p.shipments is.chains) e is.are_chains;
        are_least = subst (λ (allowed : ℕ → Leg → Bool). AllZipFrom (λ k (s : Shipment) n. IsLeastCost p others (allowed k) s (leaf_price p tables allowed kind is.chains k s.size) n) 0 p.shipments is.costs) e
            (AllZipFrom-weaker
            (λ k (s : Shipment) n. IsLeastCost p points (is_allowed p windows points sides k) s (leaf_price p tables (is_allowed p windows points sides) kind is.chains k s.size) n)
            (λ k (s : Shipment) n. IsLeastCost p others (is_allowed p windows points sides k) s (leaf_price p tables (is_allowed p windows points sides) kind is.chains k s.size) n)
            (λ k s n. least-same points others same (is_allowed p windows points sides k) s (leaf_price p tables (is_allowed p windows points sides) kind is.chains k s.size) n) 0 p.shipments is.costs is.are_least);
        value_is = is.value_is;
      }

  -- a bound over a network's points is one over the points as of its round
  pub bound-as_of : (windows : ℕ → ℕ → Option Window) (v : TimePoints) (round : ℕ) (net : TimedNetwork) → IsNetworkOf p v round net → (sides : List Side) (tables : List (List ClassShare)) (kind : Kind) (forced : Bool) (r : Result LeafBound AllocError) →
      IfOk r (IsBoundOf p windows (points_in net) sides tables kind forced) → IfOk r (IsBoundOf p windows (λ terminal. points_at v terminal round) sides tables kind forced)
  bound-as_of windows v round net of sides tables kind forced (Err e) promised = tt
  bound-as_of windows v round net of sides tables kind forced (Ok b) promised = bound-same windows (points_in net) (λ terminal. points_at v terminal round) of.points sides tables kind forced b promised
