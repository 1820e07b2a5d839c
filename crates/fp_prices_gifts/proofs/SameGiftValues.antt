-- What a leaf is worth with gifts is the same over other lists of the same points.
use Rattle.std.proofs.Common.{◌≡◌, ℕ, ◌<◌, true, Bool, List, [], ◌∷◌, length, ⊎_elim, inl, inr, sym, ◌∙◌}
use Rattle.std.specs.Prelude.{All, IfOk, None, Ok, Err, Option, Result, Some}
use Rattle.std.specs.List.{AllByRecursion}
use Rattle.std.specs.declared.alloc.AllocError.{AllocError}
use Rattle.std.proofs.lemmas.List.Elements.{All-get_or, recursion_from_All}
use Rattle.fp_base_lists.specs.Membership.{list_has}
use Rattle.fp_model.specs.declared.parts.Shipment.{Shipment}
use Rattle.fp_model.specs.Problem.{IsArc, IsValid, Problem, no_arc}
use Rattle.fp_flatnet.specs.declared.window_tables.Window.{Window}
use Rattle.fp_timenodes.specs.Points.{TimePoints, points_at}
use Rattle.fp_longestarcs.specs.Networks.{TimedNetwork, points_in}
use Rattle.fp_longestarcs.specs.Whole.{IsNetworkOf}
use Rattle.fp_tree.specs.declared.sides.Side.{Side}
use Rattle.fp_allowed.specs.Allowed.{tails_of}
use Rattle.fp_allowed.specs.SamePoints.{AgreeOnPoints}
use Rattle.fp_allowed.proofs.SamePoints.{AgreeOnPoints_sym}
use Rattle.fp_prices.specs.declared.leaf_prices.Kind.{Kind}
use Rattle.fp_prices.specs.declared.values.bounds.LeafBound.{LeafBound}
use Rattle.fp_prices.specs.declared.values.bounds.LeafBound.TheVariants.{Empty, Value}
use Rattle.fp_prices.specs.Shares.{ClassShare}
use Rattle.fp_prices_spans.specs.Spans.{ClassSpan}
use Rattle.fp_prices_spans.proofs.SameSpanValues.{span_bound-same, span_value-same}
use Rattle.fp_prices_gifts.specs.declared.gifts.Gift.{Gift}
use Rattle.fp_prices_gifts.specs.GiftLeaves.{EndsAtPoints, IsGiftBound, IsGiftBoundOf, IsGiftLeafValue, IsGiven}

-- where runs end at points, they end at the same points in other lists
ends-same : (p : Problem) (points others : ℕ → List ℕ) (gifts : List Gift) → IsValid p → AgreeOnPoints p points others → AllByRecursion (λ (gift : Gift). gift.arc < length p.arcs) gifts →
    AllByRecursion (EndsAtPoints p points) gifts → AllByRecursion (EndsAtPoints p others) gifts
ends-same p points others [] valid same exist ends = tt
ends-same p points others (gift ∷ gifts) valid same exist ends = (
  record {
    point = sym (same (tails_of p gift.arc) tail gift.point) ∙ ends.0.point;
    until = ⊎_elim
        (λ (there : list_has (points (tails_of p gift.arc)) gift.until ≡ true). inl (sym (same (tails_of p gift.arc) tail gift.until) ∙ there))
        (λ (late : AllByRecursion (λ (s : Shipment). s.due < gift.until) p.shipments). inr late) ends.0.until;
  },
  ends-same p points others gifts valid same exist.1 ends.1,
)
  where
    tail : tails_of p gift.arc < length p.terminals
    tail = (All-get_or (IsArc (length p.terminals)) p.arcs gift.arc no_arc exist.0 valid.parts.arcs).from

module _ (p : Problem) (valid : IsValid p) (windows : ℕ → ℕ → Option Window) (sides : List Side) (tables : List (List ClassShare)) (spans : List ClassSpan) (gifts : List Gift) (exist : All (λ (gift : Gift). gift.arc < length p.arcs) gifts) (kind : Kind) (forced : Bool) where
  -- the same is given
  pub given-over : (points others : ℕ → List ℕ) → AgreeOnPoints p points others → (before value : ℕ) → IsGiven p points sides gifts before value → IsGiven p others sides gifts before value
  given-over points others same before value is = record {
    numbers = is.numbers;
    ends = ends-same p points others gifts valid same (recursion_from_All (λ (gift : Gift). gift.arc < length p.arcs) gifts exist) is.ends;
    are_numbers = is.are_numbers;
    value_is = is.value_is;
  }

  pub gift_value-same : (points others : ℕ → List ℕ) → AgreeOnPoints p points others → (value : ℕ) → IsGiftLeafValue p windows points sides tables spans gifts kind forced value → IsGiftLeafValue p windows others sides tables spans gifts kind forced value
  gift_value-same points others same value is = record {
    before = is.before;
    plain = is.plain;
    by_spans = span_value-same p valid windows points others same sides tables spans kind forced is.before is.by_spans;
    given = given-over points others same is.before value is.given;
  }

  bound_of-same : (points others : ℕ → List ℕ) → AgreeOnPoints p points others → (b : LeafBound) → IsGiftBoundOf p windows points sides tables spans gifts kind forced b → IsGiftBoundOf p windows others sides tables spans gifts kind forced b
  bound_of-same points others same (Empty shipment) is = span_bound-same p valid windows points others same sides tables spans kind forced (Empty shipment) is
  bound_of-same points others same (Value value) is = gift_value-same points others same value is

  bound-same : (points others : ℕ → List ℕ) → AgreeOnPoints p points others → (found : Option LeafBound) → IsGiftBound p windows points sides tables spans gifts kind forced found → IsGiftBound p windows others sides tables spans gifts kind forced found
  bound-same points others same None none = λ b is. none b (bound_of-same others points (AgreeOnPoints_sym p points others same) b is)
  bound-same points others same (Some b) is = bound_of-same points others same b is

  -- a bound over a network's points is one over the points as of its round
  pub gift_bound-as_of : (v : TimePoints) (round : ℕ) (net : TimedNetwork) → IsNetworkOf p v round net → (r : Result (Option LeafBound) AllocError) → IfOk r (IsGiftBound p windows (points_in net) sides tables spans gifts kind forced) →
      IfOk r (IsGiftBound p windows (λ terminal. points_at v terminal round) sides tables spans gifts kind forced)
  gift_bound-as_of v round net of (Err e) promised = tt
  gift_bound-as_of v round net of (Ok found) promised = bound-same (points_in net) (λ terminal. points_at v terminal round) of.points found promised
