-- The six prices from which a leaf's price is improved: the kinds linear, even and inherited, each plain and with forced classes
-- paid whole.
use Rattle.std.specs.Prelude.{ℕ, ◌≤◌, ◌≡◌, ◌⊎◌, List, Bool, true, Option}
use Rattle.fp_model.specs.Problem.{Problem}
use Rattle.fp_flatnet.specs.declared.window_tables.Window.{Window}
use Rattle.fp_flatnet.specs.Tables.{windows_in}
use Rattle.fp_longestarcs.specs.Networks.{points_in}
use Rattle.fp_tree.specs.declared.sides.Side.{Side}
use Rattle.fp_prices.specs.declared.values.bounds.LeafBound.TheVariants.{Value}
use Rattle.fp_prices.specs.declared.leaf_prices.Kind.{Kind}
use Rattle.fp_prices.specs.declared.leaf_prices.Kind.TheVariants.{Linear, Even}
use Rattle.fp_prices.specs.Leaves.{IsLeafValue, IsSmallBound}
use Rattle.fp_prices.specs.Rounds.{LeafModel}
use Rattle.fp_prices.specs.Shares.{ClassShare}
use Rattle.fp_prices.specs.Tables.{HasKind}
use Rattle.fp_duals.specs.declared.starts.Start.{Start}

-- each value of a leaf by prices of a kind, in both modes, is such a number
abbrev pub EachMode : Problem → (ℕ → ℕ → Option Window) → (ℕ → List ℕ) → List Side → List (List ClassShare) → Kind → (ℕ → Type 0) → Type 0
EachMode p windows points sides tables kind P = (forced : Bool) (value : ℕ) → IsLeafValue p windows points sides tables kind forced value → P value

-- each value of a leaf by the six starting prices, of which this is the inherited kind, is such a number
pub record EachStart (p : Problem) (windows : ℕ → ℕ → Option Window) (points : ℕ → List ℕ) (sides : List Side) (tables : List (List ClassShare)) (kind : Kind) (P : ℕ → Type 0) : Type 0 where
  pub linear : EachMode p windows points sides tables Linear P
  pub even : EachMode p windows points sides tables Even P
  pub inherited : EachMode p windows points sides tables kind P

-- the value of a leaf by the prices of a start, whose kind the tables have
pub record IsStart (leaf : LeafModel) (tables : List (List ClassShare)) (start : Start) : Type 0 where
  pub kind : HasKind tables start.kind
  pub value : IsLeafValue leaf.setting.problem (windows_in leaf.setting.windows) (points_in leaf.setting.network) leaf.sides tables start.kind start.forced start.value
  pub small : IsSmallBound leaf.setting.problem (Value start.value)

-- a leaf with the tables by which it may be priced
pub record TabledModel : Type 0 where
  pub leaf : LeafModel
  pub tables : List (List ClassShare)

-- the value by linear prices with forced classes paid whole is at most a number
pub record IsAboveWhole (leaf : LeafModel) (tables : List (List ClassShare)) (n : ℕ) : Type 0 where
  pub whole : ℕ
  pub value : IsLeafValue leaf.setting.problem (windows_in leaf.setting.windows) (points_in leaf.setting.network) leaf.sides tables Linear true whole
  pub below : whole ≤ n

-- a kind is one of two
abbrev pub IsOneOf : (first second kind : Kind) → Type 0
IsOneOf first second kind = (kind ≡ first) ⊎ (kind ≡ second)

-- a start by which the leaf is worth no less than by the first, and whose kind is that of the first or this one
pub record IsNext (x : TabledModel) (first : Start) (kind : Kind) (start : Start) : Type 0 where
  pub is : IsStart x.leaf x.tables start
  pub one : IsOneOf first.kind kind start.kind
  pub no_less : first.value ≤ start.value

-- a kind is one of those of the six starting prices
abbrev pub IsStartKind : (inherited kind : Kind) → Type 0
IsStartKind inherited kind = (kind ≡ Linear) ⊎ (kind ≡ Even) ⊎ (kind ≡ inherited)

-- a start at least as good as each of the six, where the first of them has a value
pub record IsBestStart (leaf : LeafModel) (tables : List (List ClassShare)) (inherited : Kind) (start : Start) : Type 0 where
  pub is : IsStart leaf tables start
  pub one : IsStartKind inherited start.kind
  pub best : EachStart leaf.setting.problem (windows_in leaf.setting.windows) (points_in leaf.setting.network) leaf.sides tables inherited (λ other. other ≤ start.value)
  pub above : IsAboveWhole leaf tables start.value
