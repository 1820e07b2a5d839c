-- What the leaves of a printed tree show.
use Rattle.std.specs.Prelude.{ℕ, ◌<◌, ◌≤◌, ◌≡◌, ◌⊎◌, List, [], Bool, false, None}
use Rattle.fp_base_lists.specs.Elements.{AnyByRecursion}
use Rattle.std.specs.List.{AllByRecursion}
use Rattle.fp_flatnet.specs.Tables.{windows_in}
use Rattle.fp_tree.specs.declared.sides.Side.{Side}
use Rattle.fp_tree.specs.Trees.{Leaf}
use Rattle.fp_prices.specs.declared.leaf_prices.Kind.TheVariants.{Even, Linear}
use Rattle.fp_prices.specs.Leaves.{IsLeafValue}
use Rattle.fp_prices_spans.specs.SpanKinds.{spans_beside}
use Rattle.fp_prices_spans.specs.SpanLeaves.{IsSpanLeafEmpty}
use Rattle.fp_certificate_lines.specs.declared.certificates.Node.{Node}
use Rattle.fp_certificate_lines.specs.declared.certificates.Node.TheVariants as node
use Rattle.fp_certificate_lines.specs.declared.certificates.Valuation.{Valuation}
use Rattle.fp_session_history.specs.Notes.{History, last_round, points_of, worth_of}
use Rattle.fp_session_history.specs.Splits.{IsEarnedAt, IsValueAt}

-- a leaf is empty over the points as of its price's round, by the heads and the ways that walks go by
-- under its price, and it is valued under all its sides
pub record IsEmptyAt (h : History) (sides : List Side) (v : Valuation) : Type 0 where
  pub empty : IsSpanLeafEmpty h.problem (windows_in h.windows) (points_of h v.price.round) sides (spans_beside h.spans v.price.kind)
  pub whole : v.sides ≡ None

-- of a node that is a leaf: P of how it is valued and of the sides on its way
abbrev pub OfLeaf : (Valuation → List Side → Type 0) → Leaf Node → Type 0
OfLeaf P l = elim l.node as (λ n. Type 0) [ node.Branch split ↦ ⊥ | node.Leaf valuation ↦ P valuation l.sides | node.Narrow narrowing ↦ ⊥ ]

-- a printed leaf is empty, or earned
abbrev pub IsPrintedLeaf : History → Leaf Node → Type 0
IsPrintedLeaf h = OfLeaf (λ v sides. IsEmptyAt h sides v ⊎ IsEarnedAt h sides v)

-- a leaf isn't empty and is worth so much, in whole units of money, rounded up by the unit
pub record IsWorth (h : History) (sides : List Side) (v : Valuation) (worth : ℕ) : Type 0 where
  pub value : ℕ
  pub is : IsValueAt h sides v value
  pub rounded : worth ≡ worth_of h value

-- the least that a leaf is worth which isn't empty
pub record IsLeastWorth (h : History) (leaves : List (Leaf Node)) (bound : ℕ) : Type 0 where
  pub each : AllByRecursion (OfLeaf (λ v sides. (worth : ℕ) → IsWorth h sides v worth → bound ≤ worth)) leaves
  pub some : AnyByRecursion (OfLeaf (λ v sides. IsWorth h sides v bound)) leaves

-- a leaf has a value and is worth less than the cost, and the value is at least its values under all its
-- sides by linear and by even prices over the points as of the last round, plain and with forced classes
-- paid whole
pub record IsOpenBelow (h : History) (cost : ℕ) (sides : List Side) (v : Valuation) : Type 0 where
  pub value : ℕ
  pub is : IsValueAt h sides v value
  pub below : worth_of h value < cost
  pub linear : (f : Bool) (other : ℕ) → IsLeafValue h.problem (windows_in h.windows) (points_of h (last_round h)) sides [] Linear f other → other ≤ value
  pub even : (f : Bool) (other : ℕ) → IsLeafValue h.problem (windows_in h.windows) (points_of h (last_round h)) sides [] Even f other → other ≤ value
