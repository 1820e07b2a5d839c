-- What a bound tells of a leaf, under sides that ask alike what its own do.
use Rattle.std.proofs.Common.{ℕ, ◌≤◌, Bool, List, subst}
use Rattle.std.specs.Prelude.{◌↔◌, None, Option, Some}
use Rattle.std.specs.Int.{div_ceil}
use Rattle.fp_model.specs.Problem.{Problem}
use Rattle.fp_flatnet.specs.declared.window_tables.Window.{Window}
use Rattle.fp_flatnet.specs.Tables.{windows_in}
use Rattle.fp_tree.specs.declared.sides.Side.{Side}
use Rattle.fp_prices.specs.declared.values.bounds.LeafBound.{LeafBound}
use Rattle.fp_prices.specs.declared.values.bounds.LeafBound.TheVariants.{Empty, Value}
use Rattle.fp_prices.specs.declared.leaf_prices.LeafPrice.{LeafPrice}
use Rattle.fp_prices_gifts.specs.declared.gifts.Gift.{Gift}
use Rattle.fp_prices_gifts.specs.GiftKinds.{gifts_beside}
use Rattle.fp_prices_spans.specs.SpanKinds.{spans_beside}
use Rattle.fp_prices_spans.specs.Spans.{ClassSpan}
use Rattle.fp_certificate_lines.specs.Moments.{by_moments}
use Rattle.fp_certificate_rules.specs.Accepted.{claim_of}
use Rattle.fp_certificate_rules.specs.Leaves.{IsLeafEmptyBy, IsLeafValueBy}
use Rattle.fp_certificate_rules.specs.Points.{points_as_of}
use Rattle.fp_certificate_rules.specs.Units.{rounded_up}
use Rattle.fp_checker.specs.Bounds.{IsBoundWorth, IsEmptyBound, IsLeafBoundBy}
use Rattle.fp_checker.specs.Cases.{Tested}
use Rattle.fp_checker.specs.LeafWays.{AskAlike}
use Rattle.fp_checker.proofs.LeavesBy.{leaf_empty-alike, leaf_value-alike, none-empty, none-value, one-value, some-empty, some-value, value-empty}
use Rattle.fp_checker.proofs.SameSides.{AskAlike-sym}

-- a leaf under these sides is empty by its heads, by the certificate's points as of a price's round
abbrev pub IsEmptyUnder : Tested → LeafPrice → List Side → Type 0
IsEmptyUnder t price sides =
    IsLeafEmptyBy (by_moments t.told.moments price.kind) t.problem (windows_in t.windows) (points_as_of t.problem t.windows.anchors t.told price.round) sides (spans_beside t.told.spans price.kind)

-- or worth what the certificate claims, by a price
abbrev pub IsWorthUnder : Tested → LeafPrice → List Side → Type 0
IsWorthUnder t price sides =
    (value : ℕ)
    × IsLeafValueBy (by_moments t.told.moments price.kind) t.problem (windows_in t.windows) (points_as_of t.problem t.windows.anchors t.told price.round) sides t.told.tables (spans_beside t.told.spans price.kind) (gifts_beside t.told.gifts price.kind) price.kind price.forced value
    × (claim_of t.told.answer ≤ rounded_up t.told.unit (div_ceil value t.problem.scale))

-- the bound of a leaf, if it has one
abbrev pub IsBoundUnder : Tested → LeafPrice → List Side → Option LeafBound → Type 0
IsBoundUnder t price sides found =
    IsLeafBoundBy (by_moments t.told.moments price.kind) t.problem (windows_in t.windows) (points_as_of t.problem t.windows.anchors t.told price.round) sides t.told.tables (spans_beside t.told.spans price.kind) (gifts_beside t.told.gifts price.kind) price.kind price.forced found

module _ (t : Tested) (price : LeafPrice) (own sides : List Side) (bound : Option LeafBound) (alike : AskAlike own sides) (is : IsBoundUnder t price own bound) where
  abbrev p : Problem
  p = t.problem

  abbrev windows : ℕ → ℕ → Option Window
  windows = windows_in t.windows

  abbrev points : ℕ → List ℕ
  points = points_as_of t.problem t.windows.anchors t.told price.round

  abbrev spans : List ClassSpan
  spans = spans_beside t.told.spans price.kind

  abbrev gifts : List Gift
  gifts = gifts_beside t.told.gifts price.kind

  -- whether the leaf is priced by moments
  abbrev timed : Bool
  timed = by_moments t.told.moments price.kind

  empty-own : (found : Option LeafBound) → IsBoundUnder t price own found → (IsEmptyBound found ↔ IsEmptyUnder t price own)
  empty-own None none = (λ no. absurd no, λ empty. absurd (none-empty p windows points spans own t.told.tables gifts price.kind price.forced timed none empty))
  empty-own (Some (Empty shipment)) b = (λ _. some-empty p windows points spans own t.told.tables gifts price.kind price.forced timed shipment b, λ _. tt)
  empty-own (Some (Value value)) b = (
    λ none. absurd none,
    λ empty.
        absurd (value-empty p windows points spans own t.told.tables gifts price.kind price.forced timed value (some-value p windows points spans own t.told.tables gifts price.kind price.forced timed value b) empty),
  )

  worth-own : (found : Option LeafBound) → IsBoundUnder t price own found → (IsBoundWorth t.told.unit p.scale (claim_of t.told.answer) found ↔ IsWorthUnder t price own)
  worth-own None none = (λ no. absurd no, λ worth. absurd (none-value p windows points spans own t.told.tables gifts price.kind price.forced timed worth.0 none worth.1))
  worth-own (Some (Empty shipment)) b = (
    λ none. absurd none,
    λ worth.
        absurd (value-empty p windows points spans own t.told.tables gifts price.kind price.forced timed worth.0 worth.1 (some-empty p windows points spans own t.told.tables gifts price.kind price.forced timed shipment b)),
  )
  worth-own (Some (Value value)) b =
      let told = some-value p windows points spans own t.told.tables gifts price.kind price.forced timed value b in (
        λ least. (value, told, least),
        λ worth.
            subst (λ (n : ℕ). claim_of t.told.answer ≤ rounded_up t.told.unit (div_ceil n p.scale))
            (one-value p windows points spans own t.told.tables gifts price.kind price.forced timed worth.0 value worth.1 told) worth.2,
      )

  -- so it tells whether the leaf is empty
  pub bound-empty : IsEmptyBound bound ↔ IsEmptyUnder t price sides
  bound-empty =
      let by_own = empty-own bound is in (
        λ empty. leaf_empty-alike p windows points spans own sides alike timed (by_own.0 empty),
        λ empty. by_own.1 (leaf_empty-alike p windows points spans sides own (AskAlike-sym own sides alike) timed empty),
      )

  -- a value under some sides is one under others that ask alike
  worth-alike : (some others : List Side) → AskAlike some others → IsWorthUnder t price some → IsWorthUnder t price others
  worth-alike some others same worth = (worth.0, leaf_value-alike p windows points spans some others same timed t.told.tables gifts price.kind price.forced worth.0 worth.1, worth.2)

  -- and whether it is worth the claim
  pub bound-worth : IsBoundWorth t.told.unit p.scale (claim_of t.told.answer) bound ↔ IsWorthUnder t price sides
  bound-worth =
      let by_own = worth-own bound is in
      (λ least. worth-alike own sides alike (by_own.0 least), λ worth. by_own.1 (worth-alike sides own (AskAlike-sym own sides alike) worth))
