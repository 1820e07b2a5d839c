-- The bounds of leaves by moments over other lists of the same points.
use Rattle.std.proofs.Common.{ℕ, ◌<◌, Bool, true, false, List, [], ◌∷◌, length, subst}
use Rattle.std.specs.Prelude.{All, None, Option, Some}
use Rattle.std.specs.List.{AllByRecursion}
use Rattle.std.proofs.lemmas.List.Elements.{recursion_from_All}
use Rattle.fp_base_lists.specs.Numbered.{AllZipFrom}
use Rattle.fp_model.specs.declared.parts.Leg.{Leg}
use Rattle.fp_model.specs.Problem.{IsValid, Problem}
use Rattle.fp_flatnet.specs.declared.window_tables.Window.{Window}
use Rattle.fp_flatnet.specs.Tables.{windows_in}
use Rattle.fp_tree.specs.declared.sides.Side.{Side}
use Rattle.fp_allowed.specs.Allowed.{is_allowed}
use Rattle.fp_allowed.specs.SamePoints.{AgreeOnPoints}
use Rattle.fp_allowed.proofs.SamePoints.{AgreeOnPoints_sym, is_allowed_same}
use Rattle.fp_prices.specs.declared.leaf_prices.Kind.{Kind}
use Rattle.fp_prices.specs.declared.values.bounds.LeafBound.{LeafBound}
use Rattle.fp_prices.specs.declared.values.bounds.LeafBound.TheVariants.{Empty, Value}
use Rattle.fp_prices.specs.Leaves.{IsChain}
use Rattle.fp_prices.specs.Shares.{ClassShare}
use Rattle.fp_prices_gifts.specs.declared.gifts.Gift.{Gift}
use Rattle.fp_prices_gifts.specs.GiftLeaves.{IsGiftLeafValue}
use Rattle.fp_prices_gifts.specs.MomentLeaves.{IsMomentBound, IsMomentBoundOf}
use Rattle.fp_prices_spans.specs.PaidLeaves.{ChargedPay}
use Rattle.fp_prices_spans.specs.SpanLists.{IsSpanOf}
use Rattle.fp_prices_spans.specs.Spans.{ClassSpan}
use Rattle.fp_certificate_rules.proofs.FirstPoints.{charge-same}
use Rattle.fp_checker.specs.Bounds.{IsLeafBoundBy}
use Rattle.fp_checker.proofs.ChargedChains.{charged-chains}
use Rattle.fp_checker.proofs.GiftBounds.{gift_bound-same, gift_bound_of-same}

module _ (p : Problem) (valid : IsValid p) (sides : List Side) (points others : ℕ → List ℕ) (same : AgreeOnPoints p points others) where
  -- the charges of spans that are charged pay by others
  each-same : (windows : ℕ → ℕ → Option Window) (allowed : ℕ → Leg → Bool) (chains : List (List Leg)) (spans : List ClassSpan) → AllByRecursion (IsSpanOf p) spans → ChargedPay p windows points allowed chains spans →
      ChargedPay p windows others allowed chains spans
  each-same windows allowed chains [] of pay = tt
  each-same windows allowed chains (span ∷ spans) of pay =
      ((λ charged. charge-same p windows points others span valid same of.0 (pay.0 charged)), each-same windows allowed chains spans of.1 pay.1)

  pub charged-same : (windows : ℕ → ℕ → Option Window) (chains : List (List Leg)) (spans : List ClassSpan) → All (IsSpanOf p) spans → ChargedPay p windows points (is_allowed p windows points sides) chains spans →
      ChargedPay p windows others (is_allowed p windows others sides) chains spans
  charged-same windows chains spans of pay =
      subst (λ (allowed : ℕ → Leg → Bool). ChargedPay p windows others allowed chains spans) (is_allowed_same p valid points others same windows sides)
      (each-same windows (is_allowed p windows points sides) chains spans (recursion_from_All (IsSpanOf p) spans of) pay)

module _ (p : Problem) (windows : ℕ → ℕ → Option Window) (sides : List Side) (tables : List (List ClassShare)) (kind : Kind) (forced : Bool) (valid : IsValid p) (spans : List ClassSpan) (gifts : List Gift) (of : All (IsSpanOf p) spans) (exist : AllByRecursion (λ (gift : Gift). gift.arc < length p.arcs) gifts) where
  bound_of-same : (points others : ℕ → List ℕ) → AgreeOnPoints p points others → (b : LeafBound) → IsMomentBoundOf p windows points sides tables spans gifts kind forced b →
      IsMomentBoundOf p windows others sides tables spans gifts kind forced b
  bound_of-same points others same (Empty shipment) is = record {
    narrower = is.narrower;
    under = is.under;
    first = gift_bound_of-same p (windows_in is.narrower) sides tables kind forced valid spans gifts exist points others same (Empty shipment) is.first;
  }
  bound_of-same points others same (Value value) is =
      let over : ℕ → ℕ → Option Window = windows_in is.narrower in
      let old : List (List Leg) = is.leaf.by_spans.chains in
      let leaf : IsGiftLeafValue p over others sides tables spans gifts kind forced value = gift_bound_of-same p over sides tables kind forced valid spans gifts exist points others same (Value value) is.leaf in
      record {
        narrower = is.narrower;
        under = is.under;
        leaf = leaf;
        paid = charged-chains p over others (is_allowed p over others sides) forced spans old leaf.by_spans.chains
            (subst (λ (allowed : ℕ → Leg → Bool). AllZipFrom (λ k. IsChain p (allowed k) forced) 0 p.shipments old) (is_allowed_same p valid points others same over sides) is.leaf.by_spans.are_chains) leaf.by_spans.are_chains
            (charged-same p valid sides points others same over old spans of is.paid);
      }

  moment_bound-same : (points others : ℕ → List ℕ) → AgreeOnPoints p points others → (found : Option LeafBound) → IsMomentBound p windows points sides tables spans gifts kind forced found →
      IsMomentBound p windows others sides tables spans gifts kind forced found
  moment_bound-same points others same None none = λ b is. none b (bound_of-same others points (AgreeOnPoints_sym p points others same) b is)
  moment_bound-same points others same (Some b) is = bound_of-same points others same b is

  -- so it is, whether by moments or not
  pub leaf_bound-same : (timed : Bool) (points others : ℕ → List ℕ) → AgreeOnPoints p points others → (found : Option LeafBound) → IsLeafBoundBy timed p windows points sides tables spans gifts kind forced found →
      IsLeafBoundBy timed p windows others sides tables spans gifts kind forced found
  leaf_bound-same false points others same found is = gift_bound-same p windows sides tables kind forced valid spans gifts exist points others same found is
  leaf_bound-same true points others same found is = moment_bound-same points others same found is
