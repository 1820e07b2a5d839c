-- What `bound` shows of an instance.
use Rattle.std.specs.Prelude.{ℕ, ◌≤◌, ◌≡◌, List, [], Bool, Option}
use Rattle.std.specs.Int.{div_ceil}
use Rattle.fp_model.specs.Plans.{NoPlanCheaper}
use Rattle.fp_model.specs.Problem.{Problem}
use Rattle.fp_flatnet.specs.declared.window_tables.Window.{Window}
use Rattle.fp_flatnet.specs.Initial.{initial_points}
use Rattle.fp_flatnet.specs.Tables.{WindowTable, windows_in}
use Rattle.fp_prices.specs.declared.leaf_prices.Kind.TheVariants.{Even, Linear}
use Rattle.fp_prices.specs.declared.leaf_prices.LeafPrice.{LeafPrice}
use Rattle.fp_prices.specs.FlatBounds.{IsFlatBound}
use Rattle.fp_prices.specs.Leaves.{IsLeafValue}
use Rattle.fp_prices.specs.Shares.{ClassShare}
use Rattle.fp_prices.specs.Tables.{AreTables, HasKind}
use Rattle.fp_prices_spans.specs.SpanLeaves.{IsSpanLeafValue}
use Rattle.fp_prices_spans.specs.Spans.{ClassSpan}
use Rattle.fp_duals_leaves.specs.SoundSpans.{AreSoundSpans}
use Rattle.fp_app.specs.Checks.{AreWindowsOf}

-- a value in whole units of money, rounded up
abbrev pub whole_units : Problem → ℕ → ℕ
whole_units p value = div_ceil value p.scale

-- What the leaf without sides is worth under a price, tables and spans: it's at least what the leaf is worth by linear and by even
-- prices, plain and with forced classes paid whole.
pub record IsEarnedValue (p : Problem) (windows : ℕ → ℕ → Option Window) (points : ℕ → List ℕ) (price : LeafPrice) (tables : List (List ClassShare)) (spans : List ClassSpan) (value : ℕ) : Type 0 where
  pub is : IsSpanLeafValue p windows points [] tables spans price.kind price.forced value
  pub linear : (f : Bool) (other : ℕ) → IsLeafValue p windows points [] [] Linear f other → other ≤ value
  pub even : (f : Bool) (other : ℕ) → IsLeafValue p windows points [] [] Even f other → other ≤ value

-- What the root of a search is worth under a price, tables and spans: the value of the leaf without
-- sides, over the windows of the instance and the points with which it begins. The tables are in order
-- and keep the price rule, the spans keep theirs, and the price is as good as the linear and the even
-- ones.
pub record IsRootValue (p : Problem) (price : LeafPrice) (tables : List (List ClassShare)) (spans : List ClassSpan) (value : ℕ) : Type 0 where
  pub table : WindowTable
  pub windows : AreWindowsOf p table
  pub prices : AreTables p tables
  pub sound : AreSoundSpans p table spans []
  pub kind : HasKind tables price.kind
  pub round : price.round ≡ 0
  pub earned : IsEarnedValue p (windows_in table) (initial_points p []) price tables spans value

-- A number under which no plan costs, over any denominator: the value of the root in whole units.
-- It is at least the flat bound in whole units.
pub record IsRootBound (p : Problem) (price : LeafPrice) (tables : List (List ClassShare)) (spans : List ClassSpan) (value : ℕ) : Type 0 where
  pub root : IsRootValue p price tables spans value
  pub flat : (flat : ℕ) → IsFlatBound p flat → whole_units p flat ≤ whole_units p value
  pub plans : NoPlanCheaper p (whole_units p value)
