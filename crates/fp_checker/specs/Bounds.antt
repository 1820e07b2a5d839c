-- What a bound tells of the leaf that it is of, if it has one.
use Rattle.std.specs.Prelude.{ℕ, ◌≤◌, Bool, true, false, List, Option, None, Some}
use Rattle.std.specs.Int.{div_ceil}
use Rattle.fp_model.specs.Problem.{Problem}
use Rattle.fp_flatnet.specs.declared.window_tables.Window.{Window}
use Rattle.fp_tree.specs.declared.sides.Side.{Side}
use Rattle.fp_prices.specs.declared.leaf_prices.Kind.{Kind}
use Rattle.fp_prices.specs.declared.values.bounds.LeafBound.{LeafBound}
use Rattle.fp_prices.specs.declared.values.bounds.LeafBound.TheVariants.{Empty, Value}
use Rattle.fp_prices.specs.Shares.{ClassShare}
use Rattle.fp_prices_gifts.specs.declared.gifts.Gift.{Gift}
use Rattle.fp_prices_gifts.specs.GiftLeaves.{IsGiftBound}
use Rattle.fp_prices_gifts.specs.MomentLeaves.{IsMomentBound}
use Rattle.fp_prices_spans.specs.Spans.{ClassSpan}
use Rattle.fp_certificate_rules.specs.Units.{rounded_up}

-- the bound of a leaf by spans and gifts, if it has one, or, where it is priced by moments, that by the windows that its sides narrow
abbrev pub IsLeafBoundBy : (by_moments : Bool) → Problem → (windows : ℕ → ℕ → Option Window) → (points : ℕ → List ℕ) → List Side → (tables : List (List ClassShare)) → List ClassSpan → List Gift → Kind → (forced : Bool) → Option LeafBound → Type 0
IsLeafBoundBy false p windows points sides tables spans gifts kind forced found = IsGiftBound p windows points sides tables spans gifts kind forced found
IsLeafBoundBy true p windows points sides tables spans gifts kind forced found = IsMomentBound p windows points sides tables spans gifts kind forced found

-- a bound tells that a leaf is empty
abbrev pub IsEmptyBound : Option LeafBound → Type 0
IsEmptyBound None = ⊥
IsEmptyBound (Some (Empty shipment)) = Unit {0}
IsEmptyBound (Some (Value value)) = ⊥

-- a bound tells that a leaf is worth the claim in whole units of money, rounded up to a multiple of the
-- unit where there is one
abbrev pub IsBoundWorth : Option ℕ → (scale claim : ℕ) → Option LeafBound → Type 0
IsBoundWorth unit scale claim None = ⊥
IsBoundWorth unit scale claim (Some (Empty shipment)) = ⊥
IsBoundWorth unit scale claim (Some (Value value)) = claim ≤ rounded_up unit (div_ceil value scale)
