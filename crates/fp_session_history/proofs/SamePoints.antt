-- A leaf is earned, or empty, over other lists of the same points.
use Rattle.std.proofs.Common.{ℕ, ◌≤◌, Bool, List}
use Rattle.std.specs.Prelude.{Option}
use Rattle.fp_model.specs.Numbered.{shipment_at}
use Rattle.fp_model.specs.Problem.{IsValid, Problem}
use Rattle.fp_flatnet.specs.declared.window_tables.Window.{Window}
use Rattle.fp_tree.specs.declared.sides.Side.{Side}
use Rattle.fp_allowed.specs.SamePoints.{AgreeOnPoints}
use Rattle.fp_allowed.proofs.SamePoints.{AgreeOnPoints_sym}
use Rattle.fp_prices.specs.declared.values.bounds.LeafBound.TheVariants.{Value}
use Rattle.fp_prices.specs.declared.leaf_prices.Kind.{Kind}
use Rattle.fp_prices.specs.Leaves.{IsLeafValue}
use Rattle.fp_prices.specs.Shares.{ClassShare}
use Rattle.fp_prices.proofs.SamePoints.{bound-same}
use Rattle.fp_prices_spans.specs.SpanLeaves.{IsSpanLeafEmpty}
use Rattle.fp_prices_spans.specs.Spans.{ClassSpan}
use Rattle.fp_prices_spans.proofs.LeafWays.{leaf_via-same}

module _ (p : Problem) (valid : IsValid p) (windows : ℕ → ℕ → Option Window) (points others : ℕ → List ℕ) (same : AgreeOnPoints p points others) (sides : List Side) where
  -- the value is the same
  pub IsLeafValue_same : (tables : List (List ClassShare)) (kind : Kind) (forced : Bool) (value : ℕ) → IsLeafValue p windows points sides tables kind forced value →
      IsLeafValue p windows others sides tables kind forced value
  IsLeafValue_same tables kind forced value is = bound-same p valid windows points others same sides tables kind forced (Value value) is

  -- a number is at least each value of a kind over the others, where it is over the ones
  pub EachValue_same : (tables : List (List ClassShare)) (kind : Kind) (most : ℕ) → ((forced : Bool) (other : ℕ) → IsLeafValue p windows points sides tables kind forced other → other ≤ most) →
      (forced : Bool) (other : ℕ) → IsLeafValue p windows others sides tables kind forced other → other ≤ most
  EachValue_same tables kind most each forced other is =
      each forced other (bound-same p valid windows others points (AgreeOnPoints_sym p points others same) sides tables kind forced (Value other) is)

  -- and a leaf that is empty by heads and ways is empty
  pub IsSpanLeafEmpty_same : (spans : List ClassSpan) → IsSpanLeafEmpty p windows points sides spans → IsSpanLeafEmpty p windows others sides spans
  IsSpanLeafEmpty_same spans is = record {
    shipment = is.shipment;
    exists = is.exists;
    none = λ walk via. is.none walk (leaf_via-same p valid others points (AgreeOnPoints_sym p points others same) windows sides spans is.shipment (shipment_at p is.shipment) walk via);
  }
