-- Classes that a shipment doesn't use in any plan of a leaf that costs less than an amount, under prices with gifts and by moments.
use Rattle.std.specs.Prelude.{ℕ, ◌≤◌, ◌<◌, ◌≡◌, ◌⊎◌, List, length, All, Bool, true, Option}
use Rattle.std.specs.Int.{div_ceil}
use Rattle.fp_model.specs.declared.parts.Leg.{Leg}
use Rattle.fp_model.specs.Costs.{cost}
use Rattle.fp_model.specs.Numbered.{shipment_at}
use Rattle.fp_model.specs.Problem.{IsValid, Problem}
use Rattle.fp_flatnet.specs.declared.window_tables.Window.{Window}
use Rattle.fp_flatnet.specs.Tables.{WindowTable, windows_in}
use Rattle.fp_tree.specs.declared.sides.Side.{Side}
use Rattle.fp_allowed.specs.Allowed.{PlanObeys, is_allowed}
use Rattle.fp_allowed.specs.WindowsUnder.{AreWindowRowsUnder}
use Rattle.fp_prices.specs.declared.leaf_prices.Kind.{Kind}
use Rattle.fp_prices.specs.Leaves.{IsPlanOfLeaf}
use Rattle.fp_prices.specs.Prices.{AllKeepRule}
use Rattle.fp_prices.specs.Shares.{ClassShare}
use Rattle.fp_prices_spans.specs.MomentRuns.{AreAmong}
use Rattle.fp_prices_spans.specs.PaidLeaves.{ChargedPay}
use Rattle.fp_prices_spans.specs.SpanBars.{AreBarsOf, HasNoWalkThrough, IsSpanValueThrough}
use Rattle.fp_prices_spans.specs.SpanLeaves.{leaf_heads}
use Rattle.fp_prices_spans.specs.SpanLists.{AreSpansInOrder, IsSpanOf}
use Rattle.fp_prices_spans.specs.Spans.{ClassSpan}
use Rattle.fp_prices_spans.specs.Ways.{ways_fit}
use Rattle.fp_prices_gifts.specs.declared.gifts.Gift.{Gift}
use Rattle.fp_prices_gifts.specs.GiftLeaves.{IsGiftLeafValue, IsGiven, IsPlain, KeepGiftRules}
use Rattle.fp_prices_gifts.specs.Gifts.{KeepMoneyRule}

-- the value of a leaf under prices with gifts, where the shipment with the number k is made to go by a class
pub record IsGiftValueThrough (p : Problem) (windows : ℕ → ℕ → Option Window) (points : ℕ → List ℕ) (sides : List Side) (tables : List (List ClassShare)) (spans : List ClassSpan) (gifts : List Gift) (kind : Kind) (forced : Bool) (k : ℕ) (class : Leg) (value : ℕ) : Type 0 where
  pub before : ℕ
  pub plain : IsPlain gifts forced
  pub by_spans : IsSpanValueThrough p windows points sides tables spans kind forced k class before
  pub given : IsGiven p points sides gifts before value

-- a class is barred for the shipment with the number k at a leaf: the leaf has a value, the class is allowed for the shipment, and either
-- no walk of it has the class, or the value where it is made to go by the class, in whole units of money, rounded up, is at least an
-- amount. Nothing is barred where sums of prices over more points don't fit
pub record IsGiftBarred (p : Problem) (windows : ℕ → ℕ → Option Window) (points : ℕ → List ℕ) (sides : List Side) (tables : List (List ClassShare)) (spans : List ClassSpan) (gifts : List Gift) (kind : Kind) (forced : Bool) (money k : ℕ) (class : Leg) : Type 0 where
  pub fits : ways_fit p ≡ true
  pub exists : k < length p.shipments
  pub allows : is_allowed p windows points sides k class ≡ true
  pub value : ℕ
  pub leaf : IsGiftLeafValue p windows points sides tables spans gifts kind forced value
  pub why :
      HasNoWalkThrough p (leaf_heads p windows points spans k) (is_allowed p windows points sides k) (shipment_at p k) class
      ⊎ ((through : ℕ) × IsGiftValueThrough p windows points sides tables spans gifts kind forced k class through × (money ≤ div_ceil through p.scale))

-- the bars of a leaf under prices with gifts
abbrev pub AreGiftBars : Problem → (ℕ → ℕ → Option Window) → (ℕ → List ℕ) → List Side → List (List ClassShare) → List ClassSpan → List Gift → Kind → Bool → (money : ℕ) → List Side → Type 0
AreGiftBars p windows points sides tables spans gifts kind forced money bars = AreBarsOf p points (IsGiftBarred p windows points sides tables spans gifts kind forced money) bars

-- a class is barred by moments: it is by the windows that the leaf's sides narrow, where each span that is charged at the leaf pays by these
-- and by the leaf's points
pub record IsMomentBarred (p : Problem) (windows : ℕ → ℕ → Option Window) (points : ℕ → List ℕ) (sides : List Side) (tables : List (List ClassShare)) (spans : List ClassSpan) (gifts : List Gift) (kind : Kind) (forced : Bool) (money k : ℕ) (class : Leg) : Type 0 where
  pub narrower : WindowTable
  pub under : AreWindowRowsUnder p windows sides narrower.rows
  pub barred : IsGiftBarred p (windows_in narrower) points sides tables spans gifts kind forced money k class
  pub paid : ChargedPay p (windows_in narrower) points (is_allowed p (windows_in narrower) points sides) barred.leaf.by_spans.chains spans

-- the bars of a leaf by moments
abbrev pub AreMomentBars : Problem → (ℕ → ℕ → Option Window) → (ℕ → List ℕ) → List Side → List (List ClassShare) → List ClassSpan → List Gift → Kind → Bool → (money : ℕ) → List Side → Type 0
AreMomentBars p windows points sides tables spans gifts kind forced money bars = AreBarsOf p points (IsMomentBarred p windows points sides tables spans gifts kind forced money) bars

-- over every denominator, the plans of a leaf that cost less than the amount obey the bars, where spans and gifts keep their rules; by
-- moments the spans need only be in order and keep the money rule with the gifts
pub record CheaperPlansObeyBars : Type 0 where
  pub gifts : (p : Problem) (windows : ℕ → ℕ → Option Window) (first points : ℕ → List ℕ) (sides : List Side) (tables : List (List ClassShare)) (spans : List ClassSpan) (gifts : List Gift) (kind : Kind) (forced : Bool) (money : ℕ) (bars : List Side) → IsValid p →
      AreAmong p first points → AllKeepRule p tables → KeepGiftRules p windows first spans gifts → AreGiftBars p windows points sides tables spans gifts kind forced money bars →
      (d : ℕ) (routes : List (List Leg)) → IsPlanOfLeaf p windows sides d routes → cost p routes < money → PlanObeys p d bars routes
  pub moments : (p : Problem) (windows : ℕ → ℕ → Option Window) (points : ℕ → List ℕ) (sides : List Side) (tables : List (List ClassShare)) (spans : List ClassSpan) (gifts : List Gift) (kind : Kind) (forced : Bool) (money : ℕ) (bars : List Side) → IsValid p →
      AllKeepRule p tables → All (IsSpanOf p) spans → AreSpansInOrder spans → KeepMoneyRule p spans gifts → AreMomentBars p windows points sides tables spans gifts kind forced money bars →
      (d : ℕ) (routes : List (List Leg)) → IsPlanOfLeaf p windows sides d routes → cost p routes < money → PlanObeys p d bars routes
