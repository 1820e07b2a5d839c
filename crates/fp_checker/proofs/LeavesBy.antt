-- What is told of leaves by a kind of prices, whether by moments or not.
use Rattle.std.proofs.Common.{◌≡◌, ℕ, zero, suc, ◌<◌, Bool, true, false, List, length, arith}
use Rattle.std.specs.Prelude.{None, Option, Some}
use Rattle.fp_model.specs.declared.parts.Leg.{Leg}
use Rattle.fp_model.specs.Numbered.{shipment_at}
use Rattle.fp_model.specs.Problem.{Problem}
use Rattle.fp_flatnet.specs.declared.window_tables.Window.{Window}
use Rattle.fp_flatnet.specs.Tables.{windows_in}
use Rattle.fp_tree.specs.declared.sides.Side.{Side}
use Rattle.fp_allowed.specs.Allowed.{is_allowed}
use Rattle.fp_prices.specs.declared.leaf_prices.Kind.{Kind}
use Rattle.fp_prices.specs.declared.values.bounds.LeafBound.TheVariants.{Empty, Value}
use Rattle.fp_prices.specs.Shares.{ClassShare}
use Rattle.fp_prices_gifts.specs.declared.gifts.Gift.{Gift}
use Rattle.fp_prices_gifts.proofs.MomentLeaves.{moment_leaves-have-one-value}
use Rattle.fp_prices_gifts.proofs.OneGiftValue.{gift_leaves-have-one-value}
use Rattle.fp_prices_spans.specs.SpanLeaves.{IsSpanLeafEmpty, leaf_heads}
use Rattle.fp_prices_spans.specs.Spans.{ClassSpan}
use Rattle.fp_prices_spans.specs.Ways.{HasNoWalkVia, IsFirstWithoutVia, leaf_ways}
use Rattle.fp_certificate_rules.specs.Leaves.{IsLeafEmptyBy, IsLeafValueBy}
use Rattle.fp_checker.specs.Bounds.{IsLeafBoundBy}
use Rattle.fp_checker.specs.LeafWays.{AskAlike}
use Rattle.fp_checker.proofs.SameMoments.{moment_empty-alike, moment_value-alike}
use Rattle.fp_checker.proofs.SameSides.{empty-alike, value-alike}

-- where no shipment is the first without a walk, none is without one
none-without : (p : Problem) (heads : ℕ → Leg → ℕ) (ways : ℕ → List ℕ) (allowed : ℕ → Leg → Bool) → ((k : ℕ) → IsFirstWithoutVia p heads ways allowed k → ⊥) → (n k : ℕ) → k < n → k < length p.shipments →
    HasNoWalkVia p (heads k) (ways k) (allowed k) (shipment_at p k) → ⊥
none-without p heads ways allowed no_first zero k lt exists none = absurd (omega (arith, lt))
none-without p heads ways allowed no_first (suc n) k lt exists none =
    no_first k (record { exists = exists; none = none; before = λ j below alone. none-without p heads ways allowed no_first n j (omega (arith, lt, below)) (omega (arith, exists, below)) alone })

-- so the leaf isn't empty
not-empty : (p : Problem) (windows : ℕ → ℕ → Option Window) (points : ℕ → List ℕ) (sides : List Side) (spans : List ClassSpan) →
    ((k : ℕ) → IsFirstWithoutVia p (leaf_heads p windows points spans) (leaf_ways p sides spans) (is_allowed p windows points sides) k → ⊥) → IsSpanLeafEmpty p windows points sides spans → ⊥
not-empty p windows points sides spans no_first empty =
    none-without p (leaf_heads p windows points spans) (leaf_ways p sides spans) (is_allowed p windows points sides) no_first (suc empty.shipment) empty.shipment (omega arith) empty.exists empty.none

module _ (p : Problem) (windows : ℕ → ℕ → Option Window) (points : ℕ → List ℕ) (spans : List ClassSpan) where
  module _ (sides : List Side) (tables : List (List ClassShare)) (gifts : List Gift) (kind : Kind) (forced : Bool) where
    -- a leaf without a bound isn't empty
    pub none-empty : (timed : Bool) → IsLeafBoundBy timed p windows points sides tables spans gifts kind forced None → IsLeafEmptyBy timed p windows points sides spans → ⊥
    none-empty false none empty = not-empty p windows points sides spans (λ k first. none (Empty k) first) empty
    none-empty true none empty =
        not-empty p (windows_in empty.narrower) points sides spans (λ k first. none (Empty k) (record { narrower = empty.narrower; under = empty.under; first = first })) empty.empty

    -- and has no value
    pub none-value : (timed : Bool) (value : ℕ) → IsLeafBoundBy timed p windows points sides tables spans gifts kind forced None → IsLeafValueBy timed p windows points sides tables spans gifts kind forced value → ⊥
    none-value false value none is = none (Value value) is
    none-value true value none is = none (Value value) is

    -- a bound that tells of a shipment without a walk tells that the leaf is empty
    pub some-empty : (timed : Bool) (shipment : ℕ) → IsLeafBoundBy timed p windows points sides tables spans gifts kind forced (Some (Empty shipment)) → IsLeafEmptyBy timed p windows points sides spans
    some-empty false shipment first = record { shipment = shipment; exists = first.exists; none = first.none }
    some-empty true shipment is = record { narrower = is.narrower; under = is.under; empty = record { shipment = shipment; exists = is.first.exists; none = is.first.none } }

    -- and one that tells a value tells the leaf's
    pub some-value : (timed : Bool) (value : ℕ) → IsLeafBoundBy timed p windows points sides tables spans gifts kind forced (Some (Value value)) → IsLeafValueBy timed p windows points sides tables spans gifts kind forced value
    some-value false value is = is
    some-value true value is = is

    -- a leaf has one value
    pub one-value : (timed : Bool) (v w : ℕ) → IsLeafValueBy timed p windows points sides tables spans gifts kind forced v → IsLeafValueBy timed p windows points sides tables spans gifts kind forced w → v ≡ w
    one-value false v w one other = gift_leaves-have-one-value.one p windows points sides tables spans gifts kind forced v w one other
    one-value true v w one other = moment_leaves-have-one-value.one p windows points sides tables spans gifts kind forced v w one other

    -- and none where it is empty
    pub value-empty : (timed : Bool) (v : ℕ) → IsLeafValueBy timed p windows points sides tables spans gifts kind forced v → IsLeafEmptyBy timed p windows points sides spans → ⊥
    value-empty false v is empty = gift_leaves-have-one-value.some p windows points sides tables spans gifts kind forced v is empty
    value-empty true v is empty = moment_leaves-have-one-value.some p windows points sides tables spans gifts kind forced v is empty

  module _ (sides others : List Side) (alike : AskAlike sides others) where
    -- under sides that ask alike a leaf is empty alike
    pub leaf_empty-alike : (timed : Bool) → IsLeafEmptyBy timed p windows points sides spans → IsLeafEmptyBy timed p windows points others spans
    leaf_empty-alike false empty = empty-alike p windows points sides others alike spans empty
    leaf_empty-alike true empty = moment_empty-alike p windows sides others alike points spans empty

    -- and has the same value
    pub leaf_value-alike : (timed : Bool) (tables : List (List ClassShare)) (gifts : List Gift) (kind : Kind) (forced : Bool) (value : ℕ) → IsLeafValueBy timed p windows points sides tables spans gifts kind forced value →
        IsLeafValueBy timed p windows points others tables spans gifts kind forced value
    leaf_value-alike false tables gifts kind forced value is = value-alike p windows points sides others alike tables spans gifts kind forced value is
    leaf_value-alike true tables gifts kind forced value is = moment_value-alike p windows sides others alike points tables spans gifts kind forced value is
