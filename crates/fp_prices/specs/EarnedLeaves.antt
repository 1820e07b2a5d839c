-- Leaves whose prices are at least as good as the linear and the even ones.
use Rattle.std.specs.Prelude.{ℕ, ◌≤◌, List, [], Bool, Option}
use Rattle.fp_model.specs.Problem.{Problem}
use Rattle.fp_flatnet.specs.declared.window_tables.Window.{Window}
use Rattle.fp_tree.specs.declared.sides.Side.{Side}
use Rattle.fp_prices.specs.declared.leaf_prices.Kind.{Kind}
use Rattle.fp_prices.specs.declared.leaf_prices.Kind.TheVariants.{Linear, Even}
use Rattle.fp_prices.specs.Leaves.{IsLeafValue}
use Rattle.fp_prices.specs.Shares.{ClassShare}

-- a leaf is earned: it has a value, which is at least its values by linear and by even prices, plain and with forced classes paid whole
pub record IsEarnedLeaf (p : Problem) (windows : ℕ → ℕ → Option Window) (points : ℕ → List ℕ) (sides : List Side) (tables : List (List ClassShare)) (kind : Kind) (forced : Bool) : Type 0 where
  pub value : ℕ
  pub is : IsLeafValue p windows points sides tables kind forced value
  pub linear : (f : Bool) (other : ℕ) → IsLeafValue p windows points sides [] Linear f other → other ≤ value
  pub even : (f : Bool) (other : ℕ) → IsLeafValue p windows points sides [] Even f other → other ≤ value
