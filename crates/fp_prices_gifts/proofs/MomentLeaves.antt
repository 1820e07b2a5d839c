-- What a leaf is worth by moments is what it is worth over the windows that its sides narrow, whoever finds these: so it has one value,
-- and no plan of the leaf costs less.
use Rattle.std.proofs.Common.{◌≡◌, ℕ, Bool, List, [], ap, subst}
use Rattle.std.specs.Prelude.{None, Option, slice_index_or}
use Rattle.fp_model.specs.declared.parts.Leg.{Leg}
use Rattle.fp_model.specs.Problem.{Problem}
use Rattle.fp_flatnet.specs.declared.window_tables.Window.{Window}
use Rattle.fp_flatnet.specs.Tables.{WindowTable, windows_in}
use Rattle.fp_tree.specs.declared.sides.Side.{Side}
use Rattle.fp_allowed.specs.Allowed.{is_allowed}
use Rattle.fp_allowed.specs.WindowsUnder.{AreWindowRowsUnder}
use Rattle.fp_allowed.proofs.OneWindowRows.{AreWindowRowsUnder-one}
use Rattle.fp_prices.specs.declared.leaf_prices.Kind.{Kind}
use Rattle.fp_prices.specs.Leaves.{IsPlanOfLeaf}
use Rattle.fp_prices.specs.Shares.{ClassShare}
use Rattle.fp_prices.proofs.LeafPlans.{leaf_windows-keep_plans}
use Rattle.fp_prices_spans.specs.PaidLeaves.{ChargedPay}
use Rattle.fp_prices_spans.specs.Spans.{ClassSpan}
use Rattle.fp_prices_spans.specs.SpanLeaves.{IsSpanLeafEmpty, leaf_heads}
use Rattle.fp_prices_spans.specs.Ways.{IsFirstWithoutVia, leaf_ways}
use Rattle.fp_prices_spans.proofs.LeafWays.{leaf_route-via}
use Rattle.fp_prices_spans.proofs.SoundSpans.{charged_pay-keep_set_rule}
use Rattle.fp_prices_gifts.specs.declared.gifts.Gift.{Gift}
use Rattle.fp_prices_gifts.specs.GiftLeaves.{IsGiftLeafValue}
use Rattle.fp_prices_gifts.specs.MomentLeaves.{IsFirstWithoutBy, IsMomentLeafEmpty, IsMomentLeafValue, MomentLeavesBoundPlans, MomentLeavesHaveOneValue}
use Rattle.fp_prices_gifts.proofs.GiftBounds.{charged_gifts-bound}
use Rattle.fp_prices_gifts.proofs.OneGiftValue.{gift_leaves-have-one-value}

-- a leaf that is empty by its heads and ways has no plan: the classes of a plan's route are a walk by them
pub span_leaf-empty : (p : Problem) (windows : ℕ → ℕ → Option Window) (points : ℕ → List ℕ) (sides : List Side) (spans : List ClassSpan) → IsSpanLeafEmpty p windows points sides spans → (d : ℕ) (plan : List (List Leg)) →
    IsPlanOfLeaf p windows sides d plan → ⊥
span_leaf-empty p windows points sides spans empty d plan of_leaf =
    empty.none _ (leaf_route-via p windows points sides spans d empty.shipment plan empty.exists of_leaf)

-- the value of a leaf over windows, by which each span that is charged pays
abbrev pub IsPaidValue : Problem → (ℕ → ℕ → Option Window) → (ℕ → List ℕ) → List Side → List (List ClassShare) → List ClassSpan → List Gift → Kind → Bool → ℕ → Type 0
IsPaidValue p windows points sides tables spans gifts kind forced value =
    (leaf : IsGiftLeafValue p windows points sides tables spans gifts kind forced value) × ChargedPay p windows points (is_allowed p windows points sides) leaf.by_spans.chains spans

module _ (p : Problem) (windows : ℕ → ℕ → Option Window) (points : ℕ → List ℕ) (sides : List Side) (table : WindowTable) (under : AreWindowRowsUnder p windows sides table.rows) where
  -- the sides narrow the windows in one way
  pub windows-one : (other : WindowTable) → AreWindowRowsUnder p windows sides other.rows → windows_in other ≡ windows_in table
  windows-one other also =
      let entry : List (List (Option Window)) → ℕ → ℕ → Option Window = λ rows k a. slice_index_or (slice_index_or rows k []) a None in
      ap entry (AreWindowRowsUnder-one p windows sides other.rows table.rows also under)

  -- so what is said of a leaf by moments holds over these windows
  pub value-over : (tables : List (List ClassShare)) (spans : List ClassSpan) (gifts : List Gift) (kind : Kind) (forced : Bool) (v : ℕ) → IsMomentLeafValue p windows points sides tables spans gifts kind forced v →
      IsPaidValue p (windows_in table) points sides tables spans gifts kind forced v
  value-over tables spans gifts kind forced v is =
      subst (λ (over : ℕ → ℕ → Option Window). IsPaidValue p over points sides tables spans gifts kind forced v) (windows-one is.narrower is.under) (is.leaf, is.paid)

  pub empty-over : (spans : List ClassSpan) → IsMomentLeafEmpty p windows points sides spans → IsSpanLeafEmpty p (windows_in table) points sides spans
  empty-over spans is = subst (λ (over : ℕ → ℕ → Option Window). IsSpanLeafEmpty p over points sides spans) (windows-one is.narrower is.under) is.empty

  pub first-over : (spans : List ClassSpan) (shipment : ℕ) → IsFirstWithoutBy p windows points sides spans shipment →
      IsFirstWithoutVia p (leaf_heads p (windows_in table) points spans) (leaf_ways p sides spans) (is_allowed p (windows_in table) points sides) shipment
  first-over spans shipment is =
      subst (λ (over : ℕ → ℕ → Option Window). IsFirstWithoutVia p (leaf_heads p over points spans) (leaf_ways p sides spans) (is_allowed p over points sides) shipment) (windows-one is.narrower is.under) is.first

pub moment_leaves-have-one-value : MomentLeavesHaveOneValue
moment_leaves-have-one-value = record {
  one = λ p windows points sides tables spans gifts kind forced v w is_v is_w.
      gift_leaves-have-one-value.one p (windows_in is_v.narrower) points sides tables spans gifts kind forced v w is_v.leaf
      (value-over p windows points sides is_v.narrower is_v.under tables spans gifts kind forced w is_w).0;
  some = λ p windows points sides tables spans gifts kind forced v is empty.
      gift_leaves-have-one-value.some p (windows_in is.narrower) points sides tables spans gifts kind forced v is.leaf (empty-over p windows points sides is.narrower is.under spans empty);
}

-- a plan of the leaf is one over the windows that the sides narrow, and of these the first points are the leaf's own
pub moment_leaves-bound-plans : MomentLeavesBoundPlans
moment_leaves-bound-plans = record {
  values = λ p windows points sides tables spans gifts kind forced v valid keep of ordered money is d routes of_leaf.
      charged_gifts-bound p (windows_in is.narrower) points points sides tables spans gifts kind forced v valid (λ terminal q exists has. has) keep money is.leaf
      (charged_pay-keep_set_rule p (windows_in is.narrower) points (is_allowed p (windows_in is.narrower) points sides) is.leaf.by_spans.chains spans valid of ordered is.paid) d routes
      (leaf_windows-keep_plans p windows sides is.narrower is.under d routes of_leaf);
  empties = λ p windows points sides spans is d routes of_leaf.
      span_leaf-empty p (windows_in is.narrower) points sides spans is.empty d routes (leaf_windows-keep_plans p windows sides is.narrower is.under d routes of_leaf);
}
