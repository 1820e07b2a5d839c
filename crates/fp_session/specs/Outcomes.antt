-- What comes of improving a leaf that is open.
use Rattle.std.specs.Prelude.{ℕ, ◌*◌, ◌<◌, ◌≤◌, ◌≡◌, ◌≢◌, List, [], Bool, true, false, None, Option, Some, ◌⊎◌}
use Rattle.fp_base_lists.specs.Numbered.{AllZipFrom}
use Rattle.fp_model.specs.declared.parts.Leg.{Leg}
use Rattle.fp_model.specs.Costs.{cost}
use Rattle.fp_flatnet.specs.Tables.{windows_in}
use Rattle.fp_longestarcs.specs.Networks.{points_in}
use Rattle.fp_tree.specs.declared.sides.Side.{Side}
use Rattle.fp_allowed.specs.Allowed.{is_allowed}
use Rattle.fp_prices.specs.declared.leaf_prices.Kind.TheVariants.{Even, Linear}
use Rattle.fp_prices.specs.declared.leaf_prices.LeafPrice.{LeafPrice}
use Rattle.fp_prices.specs.Leaves.{IsLeafValue}
use Rattle.fp_prices.specs.Rounds.{LeafModel}
use Rattle.fp_prices_gifts.specs.GiftKinds.{IsPricedValue, gifts_beside}
use Rattle.fp_prices_spans.specs.SpanKinds.{spans_beside}
use Rattle.fp_prices_spans.specs.SpanLeaves.{IsSpanLeafEmpty}
use Rattle.fp_duals_leaves.specs.Prices.{PriceLists}
use Rattle.fp_duals.specs.Improvements.{IsReachedChain}
use Rattle.fp_session_history.specs.Notes.{History, last_round, points_of}
use Rattle.fp_session_history.specs.Solutions.{AreWalksUnder}
use Rattle.fp_session.specs.declared.kept.Kept.{Kept}
use Rattle.fp_session.specs.declared.outcomes.Outcome.{Outcome}
use Rattle.fp_session.specs.declared.outcomes.Outcome.TheVariants.{Empty, Open}
use Rattle.fp_session.specs.Nodes.{IsKept}

-- a value is at least those of the leaf by linear and by even prices over the points as of the last
-- round, plain and with forced classes paid whole
pub record IsAtLeastStarts (h : History) (sides : List Side) (value : ℕ) : Type 0 where
  pub linear : (f : Bool) (other : ℕ) → IsLeafValue h.problem (windows_in h.windows) (points_of h (last_round h)) sides [] Linear f other → other ≤ value
  pub even : (f : Bool) (other : ℕ) → IsLeafValue h.problem (windows_in h.windows) (points_of h (last_round h)) sides [] Even f other → other ≤ value

-- what is kept of a leaf that isn't empty, and a walk of each shipment under its sides; where the
-- forced chain of each shipment reaches its destination, the value is at least what they cost
pub record IsFound (h : History) (sides : List Side) (now : Kept) (chosen : List (List Leg)) : Type 0 where
  pub kept : IsKept h sides now.payload now.value
  pub some : now.payload.empty ≡ false
  pub starts : IsAtLeastStarts h sides now.value
  pub walks : AreWalksUnder h.problem h.windows (points_of h (last_round h)) sides chosen
  pub reached : (chains : List (List Leg)) →
      AllZipFrom (λ k. IsReachedChain h.problem (is_allowed h.problem (windows_in h.windows) (points_of h (last_round h)) sides k)) 0 h.problem.shipments chains →
      h.problem.scale * cost h.problem chains ≤ now.value

-- what is kept of a leaf that is empty by the heads and ways of a price
abbrev pub empty_kept : LeafPrice → Kept
empty_kept price = record {
  payload = record { valuation = record { price = price; sides = None }; empty = true; incumbent = 0; improved = None };
  value = 0;
}

-- what is kept of a leaf that has a value by a price
abbrev pub priced_kept : LeafPrice → ℕ → Kept
priced_kept price value = record { payload = record { valuation = record { price = price; sides = None }; empty = false; incumbent = 0; improved = None }; value = value }

-- under how many sides a leaf is valued that takes over how the leaf above is valued, which has so many
abbrev pub count_taken : Option ℕ → (sides : ℕ) → ℕ
count_taken None sides = sides
count_taken (Some count) sides = count

-- what is kept of such a leaf
abbrev pub taken_kept : Kept → (sides : ℕ) → Kept
taken_kept above sides = record {
  payload =
      record {
        valuation = record { price = above.payload.valuation.price; sides = Some (count_taken above.payload.valuation.sides sides) };
        empty = false;
        incumbent = 0;
        improved = None;
      };
  value = above.value;
}

-- what was kept of a leaf, with a note as of which round its price was improved, if it was
abbrev pub noted_kept : Option ℕ → Kept → Kept
noted_kept improved kept = record { payload = record kept.payload { improved = improved }; value = kept.value }

-- of what was kept and of another price with its value, the other where its value is greater
abbrev pub IsGreater : Kept → LeafPrice → ℕ → Kept → Type 0
IsGreater old price value kept = ((kept ≡ priced_kept price value) × (old.value < value)) ⊎ ((kept ≡ old) × (value ≤ old.value))

-- what came of improving a leaf: it is empty, or this is kept of it, with no less value than it had
abbrev pub IsOutcome : History → List Side → Kept → Outcome → Type 0
IsOutcome h sides old (Empty kept) = IsKept h sides kept.payload kept.value × (kept.payload.empty ≡ true)
IsOutcome h sides old (Open kept walks) = IsFound h sides kept walks.items × (old.value ≤ kept.value)

-- of a leaf of which this was found, and that is improved by a price as of the same round: where it is empty by the heads of that price,
-- or isn't priced by the gifts beside its table, what was found is kept, and else the greater of both
abbrev pub IsBestBy : LeafModel → PriceLists → (found : Kept) → LeafPrice → Kept → Type 0
IsBestBy l x found price kept =
    ((kept ≡ found)
    × (IsSpanLeafEmpty l.setting.problem (windows_in l.setting.windows) (points_in l.setting.network) l.sides (spans_beside x.spans price.kind) ⊎ (gifts_beside x.gifts price.kind ≢ [])))
    ⊎ ((value : ℕ) × IsPricedValue l.setting.problem (windows_in l.setting.windows) (points_in l.setting.network) l.sides x.tables x.spans x.gifts price.kind price.forced value × IsGreater found price value kept)

-- a leaf of which this is kept is empty, or worth no less than by a price, as of the price's round
abbrev pub IsNoLessBy : History → List Side → LeafPrice → Kept → Type 0
IsNoLessBy h sides price kept =
    (kept.payload.empty ≡ true)
    ⊎ ((value : ℕ) × IsPricedValue h.problem (windows_in h.windows) (points_of h price.round) sides h.tables h.spans h.gifts price.kind price.forced value × (value ≤ kept.value))
