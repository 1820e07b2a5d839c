-- What a leaf of a search is worth under prices with gifts: a number under which no plan of the leaf costs.
use Rattle.std.specs.Prelude.{ℕ, ◌+◌, ◌-◌, ◌*◌, ◌^◌, ◌≤◌, ◌<◌, ◌≡◌, ◌↔◌, ◌⊎◌, List, [], ◌∷◌, All, Bool, true, false, Option, Some, MatchOption, if◌then◌else◌}
use Rattle.std.specs.List.{AllByRecursion, AllZip}
use Rattle.fp_base_lists.specs.Membership.{list_has}
use Rattle.fp_model.specs.declared.parts.Leg.{Leg}
use Rattle.fp_model.specs.declared.parts.Shipment.{Shipment}
use Rattle.fp_model.specs.Costs.{cost}
use Rattle.fp_model.specs.Problem.{IsValid, Problem}
use Rattle.fp_flatnet.specs.declared.window_tables.Window.{Window}
use Rattle.fp_tree.specs.declared.sides.Side.{Side}
use Rattle.fp_allowed.specs.Allowed.{is_allowed, tails_of}
use Rattle.fp_prices.specs.declared.leaf_prices.Kind.{Kind}
use Rattle.fp_prices.specs.declared.values.bounds.LeafBound.{LeafBound}
use Rattle.fp_prices.specs.declared.values.bounds.LeafBound.TheVariants.{Empty, Value}
use Rattle.fp_prices.specs.Leaves.{IsPlanOfLeaf}
use Rattle.fp_prices.specs.Prices.{AllKeepRule}
use Rattle.fp_prices.specs.Shares.{ClassShare}
use Rattle.fp_prices_spans.specs.MomentRuns.{AreAmong}
use Rattle.fp_prices_spans.specs.Spans.{ClassSpan}
use Rattle.fp_prices_spans.specs.SpanCharges.{ChargePays}
use Rattle.fp_prices_spans.specs.SpanLeaves.{ChargedKeepSetRule, IsSpanLeafEmpty, IsSpanLeafValue, leaf_heads}
use Rattle.fp_prices_spans.specs.SpanLists.{AreSpansInOrder, IsSpanOf}
use Rattle.fp_prices_spans.specs.SpanRules.{KeepSpanRules, KeepsSetRule}
use Rattle.fp_prices_spans.specs.Ways.{IsFirstWithoutVia, leaf_ways}
use Rattle.fp_prices_gifts.specs.declared.gifts.Gift.{Gift}
use Rattle.fp_prices_gifts.specs.Gifts.{IsGiftList, KeepMoneyRule}
use Rattle.fp_prices_gifts.specs.GiftNumbers.{gift_number}

-- the run of a gift begins at a point of its arc's tail, and ends at one or after all due times: so a departure lies in it exactly where
-- its class does
pub record EndsAtPoints (p : Problem) (points : ℕ → List ℕ) (gift : Gift) : Type 0 where
  pub point : list_has (points (tails_of p gift.arc)) gift.point ≡ true
  pub until : (list_has (points (tails_of p gift.arc)) gift.until ≡ true) ⊎ AllByRecursion (λ (s : Shipment). s.due < gift.until) p.shipments

-- the amounts of the gifts for at least so many trucks, each so many times
abbrev pub least_total : List Gift → List ℕ → ℕ
least_total (gift ∷ gifts) (n ∷ numbers) = (if gift.least then gift.amount * n else 0) + least_total gifts numbers
least_total gifts numbers = 0

-- and those of the gifts for at most so many
abbrev pub most_total : List Gift → List ℕ → ℕ
most_total (gift ∷ gifts) (n ∷ numbers) = (if gift.least then 0 else gift.amount * n) + most_total gifts numbers
most_total gifts numbers = 0

-- what gifts give at a leaf because at least so many trucks leave, and because at most so many leave; each gift is for as many trucks as the
-- sides tell, and its run ends at points
pub record AreGiftTotals (p : Problem) (points : ℕ → List ℕ) (sides : List Side) (gifts : List Gift) (least most : ℕ) : Type 0 where
  pub numbers : List ℕ
  pub ends : AllByRecursion (EndsAtPoints p points) gifts
  pub are_numbers : AllZip (λ gift n. gift_number sides gift ≡ Some n) gifts numbers
  pub least_is : least ≡ least_total gifts numbers
  pub most_is : most ≡ most_total gifts numbers

-- a value with what is given added to it, less what is given because at most so many trucks leave, and at least 0; each gift is for as many
-- trucks as the sides tell, and its run ends at points
pub record IsGiven (p : Problem) (points : ℕ → List ℕ) (sides : List Side) (gifts : List Gift) (before value : ℕ) : Type 0 where
  pub numbers : List ℕ
  pub ends : AllByRecursion (EndsAtPoints p points) gifts
  pub are_numbers : AllZip (λ gift n. gift_number sides gift ≡ Some n) gifts numbers
  pub value_is : value ≡ before + least_total gifts numbers - most_total gifts numbers

-- gifts stand beside prices without forced chains alone
abbrev pub IsPlain : List Gift → Bool → Type 0
IsPlain gifts forced = (gifts ≡ []) ⊎ (forced ≡ false)

-- the value of a leaf under prices with gifts: its value by spans, with what is given
pub record IsGiftLeafValue (p : Problem) (windows : ℕ → ℕ → Option Window) (points : ℕ → List ℕ) (sides : List Side) (tables : List (List ClassShare)) (spans : List ClassSpan) (gifts : List Gift) (kind : Kind) (forced : Bool) (value : ℕ) : Type 0 where
  pub before : ℕ
  pub plain : IsPlain gifts forced
  pub by_spans : IsSpanLeafValue p windows points sides tables spans kind forced before
  pub given : IsGiven p points sides gifts before value

-- the bound of a leaf under prices with gifts: that it is empty, by its first shipment without an allowed walk by the leaf's heads and
-- ways, or its value
abbrev pub IsGiftBoundOf : Problem → (ℕ → ℕ → Option Window) → (ℕ → List ℕ) → List Side → List (List ClassShare) → List ClassSpan → List Gift → Kind → Bool → LeafBound → Type 0
IsGiftBoundOf p windows points sides tables spans gifts kind forced (Empty shipment) =
    IsFirstWithoutVia p (leaf_heads p windows points spans) (leaf_ways p sides spans) (is_allowed p windows points sides) shipment
IsGiftBoundOf p windows points sides tables spans gifts kind forced (Value value) = IsGiftLeafValue p windows points sides tables spans gifts kind forced value

-- the bound of a leaf, if it has one: a leaf that isn't empty has none where it isn't priced by the gifts
abbrev pub IsGiftBound : Problem → (ℕ → ℕ → Option Window) → (ℕ → List ℕ) → List Side → List (List ClassShare) → List ClassSpan → List Gift → Kind → Bool → Option LeafBound → Type 0
IsGiftBound p windows points sides tables spans gifts kind forced found =
    MatchOption found ((b : LeafBound) → IsGiftBoundOf p windows points sides tables spans gifts kind forced b → ⊥) (IsGiftBoundOf p windows points sides tables spans gifts kind forced)

-- a value is below 2^128
abbrev pub IsSmallGiftBound : LeafBound → Type 0
IsSmallGiftBound (Empty shipment) = Unit {0}
IsSmallGiftBound (Value value) = value ≤ 2 ^ 127 + 2 ^ 125 + 2 ^ 122

-- what is asked of spans and gifts: the set rule of the spans, and the money rule of both
pub record KeepGiftRules (p : Problem) (windows : ℕ → ℕ → Option Window) (first : ℕ → List ℕ) (spans : List ClassSpan) (gifts : List Gift) : Type 0 where
  pub money : KeepMoneyRule p spans gifts
  pub sets : AllByRecursion (KeepsSetRule p windows first) spans

-- every value of a leaf with gifts, whoever finds it, bounds the plans of the leaf, where spans and gifts keep their rules; the spans keep
-- the set rule by first points, which are all points of the leaf
abbrev pub GiftValuesBoundPlans : Type 0
GiftValuesBoundPlans =
    (p : Problem) (windows : ℕ → ℕ → Option Window) (first points : ℕ → List ℕ) (sides : List Side) (tables : List (List ClassShare)) (spans : List ClassSpan) (gifts : List Gift) (kind : Kind) (forced : Bool) (v : ℕ) → IsValid p →
    AreAmong p first points → AllKeepRule p tables → KeepGiftRules p windows first spans gifts → IsGiftLeafValue p windows points sides tables spans gifts kind forced v →
    (d : ℕ) (routes : List (List Leg)) → IsPlanOfLeaf p windows sides d routes → v ≤ p.scale * cost p routes

-- the set rule is asked only of spans that are charged at the leaf: the others may break it, and the value bounds the leaf's plans still
abbrev pub ChargedGiftsBoundPlans : Type 0
ChargedGiftsBoundPlans =
    (p : Problem) (windows : ℕ → ℕ → Option Window) (first points : ℕ → List ℕ) (sides : List Side) (tables : List (List ClassShare)) (spans : List ClassSpan) (gifts : List Gift) (kind : Kind) (forced : Bool) (v : ℕ) → IsValid p →
    AreAmong p first points → AllKeepRule p tables → KeepMoneyRule p spans gifts → (leaf : IsGiftLeafValue p windows points sides tables spans gifts kind forced v) →
    ChargedKeepSetRule p windows first (is_allowed p windows points sides) leaf.by_spans.chains spans →
    (d : ℕ) (routes : List (List Leg)) → IsPlanOfLeaf p windows sides d routes → v ≤ p.scale * cost p routes

-- spans in order keep the rules with gifts, where they keep the money rule together and the charges pay
abbrev pub SoundGiftsKeepRules : Type 0
SoundGiftsKeepRules =
    (p : Problem) (windows : ℕ → ℕ → Option Window) (first : ℕ → List ℕ) (spans : List ClassSpan) (gifts : List Gift) → IsValid p → All (IsSpanOf p) spans → AreSpansInOrder spans → IsGiftList p spans gifts →
    All (ChargePays p windows first) spans → KeepGiftRules p windows first spans gifts

-- spans that keep their own rules keep those with gifts where there are none
abbrev pub RulesWithoutGifts : Type 0
RulesWithoutGifts = (p : Problem) (windows : ℕ → ℕ → Option Window) (first : ℕ → List ℕ) (spans : List ClassSpan) → KeepSpanRules p windows first spans → KeepGiftRules p windows first spans []

-- a leaf has one value with gifts only, whatever the windows, points, sides, prices and gifts, and none where it is empty
pub record GiftLeavesHaveOneValue : Type 0 where
  pub one : (p : Problem) (windows : ℕ → ℕ → Option Window) (points : ℕ → List ℕ) (sides : List Side) (tables : List (List ClassShare)) (spans : List ClassSpan) (gifts : List Gift) (kind : Kind) (forced : Bool) (v w : ℕ) →
      IsGiftLeafValue p windows points sides tables spans gifts kind forced v → IsGiftLeafValue p windows points sides tables spans gifts kind forced w → v ≡ w
  pub some : (p : Problem) (windows : ℕ → ℕ → Option Window) (points : ℕ → List ℕ) (sides : List Side) (tables : List (List ClassShare)) (spans : List ClassSpan) (gifts : List Gift) (kind : Kind) (forced : Bool) (v : ℕ) →
      IsGiftLeafValue p windows points sides tables spans gifts kind forced v → IsSpanLeafEmpty p windows points sides spans → ⊥

-- without gifts, the value is that by spans
abbrev pub ValuesWithoutGifts : Type 0
ValuesWithoutGifts =
    (p : Problem) (windows : ℕ → ℕ → Option Window) (points : ℕ → List ℕ) (sides : List Side) (tables : List (List ClassShare)) (spans : List ClassSpan) (kind : Kind) (forced : Bool) (v : ℕ) →
    IsGiftLeafValue p windows points sides tables spans [] kind forced v ↔ IsSpanLeafValue p windows points sides tables spans kind forced v
