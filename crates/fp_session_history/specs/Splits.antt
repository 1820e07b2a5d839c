-- When the splits of a search's tree are earned.
use Rattle.std.specs.Prelude.{ℕ, ◌<◌, ◌≤◌, List, [], Bool}
use Rattle.std.specs.List.{AllZip}
use Rattle.fp_flatnet.specs.Tables.{windows_in}
use Rattle.fp_tree.specs.declared.sides.Side.{Side}
use Rattle.fp_tree.specs.Trees.{Branch}
use Rattle.fp_prices.specs.declared.leaf_prices.Kind.TheVariants.{Even, Linear}
use Rattle.fp_prices.specs.Leaves.{IsLeafValue}
use Rattle.fp_prices_gifts.specs.GiftKinds.{IsPricedValue}
use Rattle.fp_certificate_lines.specs.declared.certificates.Valuation.{Valuation}
use Rattle.fp_certificate_lines.specs.Valuations.{sides_valued}
use Rattle.fp_session_history.specs.declared.notes.SplitNote.{SplitNote}
use Rattle.fp_session_history.specs.Notes.{History, points_of, worth_of}

-- the value of a leaf as it is valued: under its price, with the spans and the gifts beside its table, and
-- those of its sides, over the points as of the price's round
abbrev pub IsValueAt : History → List Side → Valuation → ℕ → Type 0
IsValueAt h sides v value =
    IsPricedValue h.problem (windows_in h.windows) (points_of h v.price.round) (sides_valued v sides) h.tables h.spans h.gifts v.price.kind v.price.forced value

-- a leaf is earned as it is valued, over the points as of the price's round: it has a value so, which is
-- at least its values by linear and by even prices, under all its sides and under those by which it is
-- valued
pub record IsEarnedAt (h : History) (sides : List Side) (v : Valuation) : Type 0 where
  pub value : ℕ
  pub is : IsValueAt h sides v value
  pub linear : (f : Bool) (other : ℕ) → IsLeafValue h.problem (windows_in h.windows) (points_of h v.price.round) sides [] Linear f other → other ≤ value
  pub even : (f : Bool) (other : ℕ) → IsLeafValue h.problem (windows_in h.windows) (points_of h v.price.round) sides [] Even f other → other ≤ value
  pub linear_under : (f : Bool) (other : ℕ) → IsLeafValue h.problem (windows_in h.windows) (points_of h v.price.round) (sides_valued v sides) [] Linear f other → other ≤ value
  pub even_under : (f : Bool) (other : ℕ) → IsLeafValue h.problem (windows_in h.windows) (points_of h v.price.round) (sides_valued v sides) [] Even f other → other ≤ value

-- a split is earned by its note: as a leaf, under the sides on its way, it was earned as the note values
-- it and worth less than the note's incumbent, which costs at most what the search started with and at
-- least what it ended with
pub record IsEarnedSplit (h : History) (started ended : ℕ) (sides : List Side) (n : SplitNote) : Type 0 where
  pub leaf : IsEarnedAt h sides n.valuation
  pub below : worth_of h leaf.value < n.incumbent
  pub first : n.incumbent ≤ started
  pub last : ended ≤ n.incumbent

-- each split of a tree is earned by its note, in preorder
abbrev pub AreEarnedSplits : History → (started ended : ℕ) → {X : Type 0} → List (Branch X) → List SplitNote → Type 0
AreEarnedSplits h started ended {X} branches notes = AllZip (λ (b : Branch X) n. IsEarnedSplit h started ended b.sides n) branches notes
