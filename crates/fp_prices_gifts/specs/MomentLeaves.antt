-- What a leaf is worth by its own windows, those that its sides narrow: then a span's charge has to pay only at the leaves at which it is
-- charged, for shipments that can still leave together there.
use Rattle.std.specs.Prelude.{ℕ, ◌*◌, ◌≤◌, ◌≡◌, List, All, Bool, Option, MatchOption}
use Rattle.fp_model.specs.declared.parts.Leg.{Leg}
use Rattle.fp_model.specs.Costs.{cost}
use Rattle.fp_model.specs.Problem.{IsValid, Problem}
use Rattle.fp_flatnet.specs.declared.window_tables.Window.{Window}
use Rattle.fp_flatnet.specs.Tables.{WindowTable, windows_in}
use Rattle.fp_tree.specs.declared.sides.Side.{Side}
use Rattle.fp_allowed.specs.Allowed.{is_allowed}
use Rattle.fp_allowed.specs.WindowsUnder.{AreWindowRowsUnder}
use Rattle.fp_prices.specs.declared.leaf_prices.Kind.{Kind}
use Rattle.fp_prices.specs.declared.values.bounds.LeafBound.{LeafBound}
use Rattle.fp_prices.specs.declared.values.bounds.LeafBound.TheVariants.{Empty, Value}
use Rattle.fp_prices.specs.Leaves.{IsPlanOfLeaf}
use Rattle.fp_prices.specs.Prices.{AllKeepRule}
use Rattle.fp_prices.specs.Shares.{ClassShare}
use Rattle.fp_prices_spans.specs.PaidLeaves.{ChargedPay}
use Rattle.fp_prices_spans.specs.Spans.{ClassSpan}
use Rattle.fp_prices_spans.specs.SpanLeaves.{IsSpanLeafEmpty, leaf_heads}
use Rattle.fp_prices_spans.specs.SpanLists.{AreSpansInOrder, IsSpanOf}
use Rattle.fp_prices_spans.specs.Ways.{IsFirstWithoutVia, leaf_ways}
use Rattle.fp_prices_gifts.specs.declared.gifts.Gift.{Gift}
use Rattle.fp_prices_gifts.specs.GiftLeaves.{IsGiftLeafValue}
use Rattle.fp_prices_gifts.specs.Gifts.{KeepMoneyRule}

-- the value of a leaf by moments: that by the windows that its sides narrow, where each span that is charged pays by these and by the
-- leaf's points
pub record IsMomentLeafValue (p : Problem) (windows : ℕ → ℕ → Option Window) (points : ℕ → List ℕ) (sides : List Side) (tables : List (List ClassShare)) (spans : List ClassSpan) (gifts : List Gift) (kind : Kind) (forced : Bool) (value : ℕ) : Type 0 where
  pub narrower : WindowTable
  pub under : AreWindowRowsUnder p windows sides narrower.rows
  pub leaf : IsGiftLeafValue p (windows_in narrower) points sides tables spans gifts kind forced value
  pub paid : ChargedPay p (windows_in narrower) points (is_allowed p (windows_in narrower) points sides) leaf.by_spans.chains spans

-- a leaf is empty by moments: some shipment has no allowed walk by the heads and ways of the leaf over the windows that its sides narrow
pub record IsMomentLeafEmpty (p : Problem) (windows : ℕ → ℕ → Option Window) (points : ℕ → List ℕ) (sides : List Side) (spans : List ClassSpan) : Type 0 where
  pub narrower : WindowTable
  pub under : AreWindowRowsUnder p windows sides narrower.rows
  pub empty : IsSpanLeafEmpty p (windows_in narrower) points sides spans

-- the shipment with this number is the first that has none
pub record IsFirstWithoutBy (p : Problem) (windows : ℕ → ℕ → Option Window) (points : ℕ → List ℕ) (sides : List Side) (spans : List ClassSpan) (shipment : ℕ) : Type 0 where
  pub narrower : WindowTable
  pub under : AreWindowRowsUnder p windows sides narrower.rows
  pub first : IsFirstWithoutVia p (leaf_heads p (windows_in narrower) points spans) (leaf_ways p sides spans) (is_allowed p (windows_in narrower) points sides) shipment

-- the bound of a leaf by moments: that it is empty, by its first shipment without a walk, or its value
abbrev pub IsMomentBoundOf : Problem → (ℕ → ℕ → Option Window) → (ℕ → List ℕ) → List Side → List (List ClassShare) → List ClassSpan → List Gift → Kind → Bool → LeafBound → Type 0
IsMomentBoundOf p windows points sides tables spans gifts kind forced (Empty shipment) = IsFirstWithoutBy p windows points sides spans shipment
IsMomentBoundOf p windows points sides tables spans gifts kind forced (Value value) = IsMomentLeafValue p windows points sides tables spans gifts kind forced value

-- the bound of a leaf by moments, if it has one: a leaf that isn't empty has none where it isn't priced by the gifts, or a span that is
-- charged doesn't pay
abbrev pub IsMomentBound : Problem → (ℕ → ℕ → Option Window) → (ℕ → List ℕ) → List Side → List (List ClassShare) → List ClassSpan → List Gift → Kind → Bool → Option LeafBound → Type 0
IsMomentBound p windows points sides tables spans gifts kind forced found =
    MatchOption found ((b : LeafBound) → IsMomentBoundOf p windows points sides tables spans gifts kind forced b → ⊥) (IsMomentBoundOf p windows points sides tables spans gifts kind forced)

-- every value of a leaf by moments, whoever finds it, bounds the plans of the leaf, where the spans are in order and keep the money rule
-- with the gifts; and a leaf that is empty by moments has no plan
pub record MomentLeavesBoundPlans : Type 0 where
  pub values : (p : Problem) (windows : ℕ → ℕ → Option Window) (points : ℕ → List ℕ) (sides : List Side) (tables : List (List ClassShare)) (spans : List ClassSpan) (gifts : List Gift) (kind : Kind) (forced : Bool) (v : ℕ) → IsValid p →
      AllKeepRule p tables → All (IsSpanOf p) spans → AreSpansInOrder spans → KeepMoneyRule p spans gifts → IsMomentLeafValue p windows points sides tables spans gifts kind forced v →
      (d : ℕ) (routes : List (List Leg)) → IsPlanOfLeaf p windows sides d routes → v ≤ p.scale * cost p routes
  pub empties : (p : Problem) (windows : ℕ → ℕ → Option Window) (points : ℕ → List ℕ) (sides : List Side) (spans : List ClassSpan) → IsMomentLeafEmpty p windows points sides spans →
      (d : ℕ) (routes : List (List Leg)) → IsPlanOfLeaf p windows sides d routes → ⊥

-- a leaf has one value by moments only, and none where it is empty by moments
pub record MomentLeavesHaveOneValue : Type 0 where
  pub one : (p : Problem) (windows : ℕ → ℕ → Option Window) (points : ℕ → List ℕ) (sides : List Side) (tables : List (List ClassShare)) (spans : List ClassSpan) (gifts : List Gift) (kind : Kind) (forced : Bool) (v w : ℕ) →
      IsMomentLeafValue p windows points sides tables spans gifts kind forced v → IsMomentLeafValue p windows points sides tables spans gifts kind forced w → v ≡ w
  pub some : (p : Problem) (windows : ℕ → ℕ → Option Window) (points : ℕ → List ℕ) (sides : List Side) (tables : List (List ClassShare)) (spans : List ClassSpan) (gifts : List Gift) (kind : Kind) (forced : Bool) (v : ℕ) →
      IsMomentLeafValue p windows points sides tables spans gifts kind forced v → IsMomentLeafEmpty p windows points sides spans → ⊥
