-- The tree of a certificate, its narrowings, and what its leaves are worth.
use Rattle.std.specs.Prelude.{ℕ, zero, suc, ◌≡◌, ◌≤◌, ◌⊎◌, List, [], ◌∷◌, ◌++◌, filter, length, max, not, unwrap_or, Bool, true, false, Option, Some, None}
use Rattle.std.specs.List.{AllByRecursion}
use Rattle.std.specs.Int.{div_ceil}
use Rattle.fp_model.specs.Problem.{Problem, arc_at}
use Rattle.fp_flatnet.specs.declared.window_tables.Window.{Window}
use Rattle.fp_flatnet.specs.Tables.{WindowTable, windows_in}
use Rattle.fp_tree.specs.declared.layout.TheConstants.{MOST_SPLITS}
use Rattle.fp_tree.specs.declared.sides.Side.{Side}
use Rattle.fp_tree.specs.declared.sides.Split.{Split}
use Rattle.fp_tree.specs.declared.sides.Split.TheVariants.{ByArc, ByTime, ByTrucks, ByWay}
use Rattle.fp_tree.specs.Sides.{Fork, first, second}
use Rattle.fp_tree.specs.Trees.{tree_splits}
use Rattle.fp_prices.specs.declared.leaf_prices.Kind.{Kind}
use Rattle.fp_prices.specs.Shares.{ClassShare}
use Rattle.fp_prices_gifts.specs.declared.gifts.Gift.{Gift}
use Rattle.fp_prices_gifts.specs.GiftBars.{AreGiftBars, AreMomentBars}
use Rattle.fp_prices_gifts.specs.GiftKinds.{gifts_beside}
use Rattle.fp_prices_gifts.specs.GiftLeaves.{IsGiftLeafValue}
use Rattle.fp_prices_gifts.specs.MomentLeaves.{IsMomentLeafEmpty, IsMomentLeafValue}
use Rattle.fp_prices_spans.specs.SpanKinds.{spans_beside}
use Rattle.fp_prices_spans.specs.SpanLeaves.{IsSpanLeafEmpty}
use Rattle.fp_prices_spans.specs.Spans.{ClassSpan}
use Rattle.fp_certificate_lines.specs.declared.certificates.Narrowing.{Narrowing}
use Rattle.fp_certificate_lines.specs.declared.certificates.Node.{Node}
use Rattle.fp_certificate_lines.specs.declared.certificates.Node.TheVariants as node
use Rattle.fp_certificate_lines.specs.Moments.{by_moments}
use Rattle.fp_certificate_lines.specs.Statements.{Statement}
use Rattle.fp_certificate_lines.specs.Valuations.{sides_valued}
use Rattle.fp_certificate_rules.specs.Points.{points_as_of}
use Rattle.fp_certificate_rules.specs.Units.{IsLeastAmount, rounded_up}
use Rattle.fp_certificate_rules.specs.declared.limits.TheConstants.{MOST_NARROWINGS}

-- the terminal that the arc of a split leaves, and 0 for a split by a time, by trucks or by a way, whose sides don't read it
abbrev pub split_tail : Problem → Split → ℕ
split_tail p (ByArc shipment arc) = (arc_at p arc).from
split_tail p (ByTime shipment terminal at) = 0
split_tail p (ByTrucks arc point until most) = 0
split_tail p (ByWay shipment arc) = 0

-- at what a node of a certificate splits, and nothing at a leaf and at a narrowing
abbrev pub fork_of : Problem → Node → Option Fork
fork_of p (node.Branch split) = Some (record { split = split; tail = split_tail p split })
fork_of p (node.Leaf valuation) = None
fork_of p (node.Narrow narrowing) = None

-- whether a line of the tree is a narrowing, and no node
abbrev pub is_narrowing : Node → Bool
is_narrowing (node.Branch split) = false
is_narrowing (node.Leaf valuation) = false
is_narrowing (node.Narrow narrowing) = true

-- the narrowings among the lines of a tree
abbrev pub narrowings_among : List Node → List Node
narrowings_among nodes = filter is_narrowing nodes

-- the nodes without them
abbrev pub bare_nodes : List Node → List Node
bare_nodes nodes = filter (λ x. not (is_narrowing x)) nodes

-- the lines are exactly so many trees, one after another, with narrowings before their nodes
abbrev pub AreNarrowedTrees : ℕ → List Node → Type 0
AreNarrowedTrees pending [] = pending ≡ 0
AreNarrowedTrees zero (x ∷ nodes) = ⊥
AreNarrowedTrees (suc pending) (node.Branch split ∷ nodes) = AreNarrowedTrees (suc (suc pending)) nodes
AreNarrowedTrees (suc pending) (node.Leaf valuation ∷ nodes) = AreNarrowedTrees pending nodes
AreNarrowedTrees (suc pending) (node.Narrow narrowing ∷ nodes) = AreNarrowedTrees (suc pending) nodes

-- the lines of the tree are exactly one tree in preorder, with narrowings before its nodes, of no more splits than a tree may have, and
-- of no more narrowings than a certificate may
pub record HasTree (p : Problem) (c : Statement) : Type 0 where
  pub tree : AreNarrowedTrees 1 c.tree
  pub few : length (tree_splits (fork_of p) c.tree) ≤ MOST_SPLITS
  pub narrowings : length (narrowings_among c.tree) ≤ MOST_NARROWINGS

-- a narrowing, with the sides on the way to the node at which it stands
pub record PlacedNarrowing : Type 0 where
  pub narrowing : Narrowing
  pub sides : List Side

-- a node that is a leaf, with the sides on its way from the root, and the narrowings at the nodes on its way and at itself, in this order
pub record NarrowedLeaf : Type 0 where
  pub node : Node
  pub sides : List Side
  pub narrowings : List PlacedNarrowing

-- a tree that is to come, with the sides on the way to its first node, and the narrowings at the nodes before it on that way
pub record PendingTree : Type 0 where
  pub sides : List Side
  pub narrowings : List PlacedNarrowing

-- the tree with one more narrowing at its first node
abbrev pub with_narrowing : PendingTree → Narrowing → PendingTree
with_narrowing tree narrowing = record { sides = tree.sides; narrowings = tree.narrowings ++ (record { narrowing = narrowing; sides = tree.sides }) ∷ [] }

-- the tree below one side of its first node
abbrev pub below_side : PendingTree → Side → PendingTree
below_side tree side = record { sides = tree.sides ++ (side ∷ []); narrowings = tree.narrowings }

-- a leaf that is the first node of the tree
abbrev pub leaf_at : PendingTree → Node → NarrowedLeaf
leaf_at tree x = record { node = x; sides = tree.sides; narrowings = tree.narrowings }

-- the leaves among lines, where `pending` has the trees that they make: a split opens two trees in place of one
abbrev pub narrowed_leaves : Problem → (pending : List PendingTree) → List Node → List NarrowedLeaf
narrowed_leaves p pending [] = []
narrowed_leaves p [] (x ∷ nodes) = []
narrowed_leaves p (tree ∷ pending) (node.Branch split ∷ nodes) =
    narrowed_leaves p (below_side tree (first (record { split = split; tail = split_tail p split })) ∷ below_side tree (second (record { split = split; tail = split_tail p split })) ∷ pending) nodes
narrowed_leaves p (tree ∷ pending) (node.Leaf valuation ∷ nodes) = leaf_at tree (node.Leaf valuation) ∷ narrowed_leaves p pending nodes
narrowed_leaves p (tree ∷ pending) (node.Narrow narrowing ∷ nodes) = narrowed_leaves p (with_narrowing tree narrowing ∷ pending) nodes

-- the whole tree, before its first line
abbrev pub root_tree : PendingTree
root_tree = record { sides = []; narrowings = [] }

-- the leaves of a certificate's tree, in preorder
abbrev pub leaves_among : Problem → List Node → List NarrowedLeaf
leaves_among p nodes = narrowed_leaves p (root_tree ∷ []) nodes

-- a leaf is empty by spans, or, where it is priced by moments, by the windows that its sides narrow
abbrev pub IsLeafEmptyBy : (by_moments : Bool) → Problem → (windows : ℕ → ℕ → Option Window) → (points : ℕ → List ℕ) → List Side → List ClassSpan → Type 0
IsLeafEmptyBy false p windows points sides spans = IsSpanLeafEmpty p windows points sides spans
IsLeafEmptyBy true p windows points sides spans = IsMomentLeafEmpty p windows points sides spans

-- the value of a leaf by spans and gifts, or, where it is priced by moments, by the windows that its sides narrow
abbrev pub IsLeafValueBy : (by_moments : Bool) → Problem → (windows : ℕ → ℕ → Option Window) → (points : ℕ → List ℕ) → List Side → (tables : List (List ClassShare)) → List ClassSpan → List Gift → Kind → (forced : Bool) → (value : ℕ) → Type 0
IsLeafValueBy false p windows points sides tables spans gifts kind forced value = IsGiftLeafValue p windows points sides tables spans gifts kind forced value
IsLeafValueBy true p windows points sides tables spans gifts kind forced value = IsMomentLeafValue p windows points sides tables spans gifts kind forced value

-- the bars of a node under sides, or, where its price is by moments, those by the windows that its sides narrow
abbrev pub AreBarsBy : (by_moments : Bool) → Problem → (windows : ℕ → ℕ → Option Window) → (points : ℕ → List ℕ) → List Side → (tables : List (List ClassShare)) → List ClassSpan → List Gift → Kind → (forced : Bool) → (money : ℕ) → (bars : List Side) → Type 0
AreBarsBy false p windows points sides tables spans gifts kind forced money bars = AreGiftBars p windows points sides tables spans gifts kind forced money bars
AreBarsBy true p windows points sides tables spans gifts kind forced money bars = AreMomentBars p windows points sides tables spans gifts kind forced money bars

-- from which worth on a narrowing bars classes: from what the certificate claims, or from what it names, where that is more
abbrev pub worth_of : (claim : ℕ) → Narrowing → ℕ
worth_of claim n = max claim (unwrap_or n.worth 0)

-- the bars of a narrowing, under those of the narrowings before it and under the sides on the way to its node, by the price that it names:
-- the classes of the shipments by which the node is worth so much, in whole units of money, rounded up to a multiple of the certificate's
-- unit, where the shipment is made to go by the class
pub record AreNarrowingBars (p : Problem) (table : WindowTable) (c : Statement) (claim : ℕ) (before : List Side) (n : PlacedNarrowing) (bars : List Side) : Type 0 where
  pub money : ℕ
  pub least : IsLeastAmount c.unit (worth_of claim n.narrowing) money
  pub are : AreBarsBy (by_moments c.moments n.narrowing.price.kind) p (windows_in table) (points_as_of p table.anchors c n.narrowing.price.round) (before ++ n.sides) c.tables
      (spans_beside c.spans n.narrowing.price.kind) (gifts_beside c.gifts n.narrowing.price.kind) n.narrowing.price.kind n.narrowing.price.forced money bars

-- the bars of some narrowings, one after the other, each under those before it
abbrev pub AreBarsAfter : Problem → WindowTable → Statement → (claim : ℕ) → (before : List Side) → List PlacedNarrowing → (bars : List Side) → Type 0
AreBarsAfter p table c claim before [] bars = bars ≡ before
AreBarsAfter p table c claim before (n ∷ narrowings) bars = (own : List Side) × AreNarrowingBars p table c claim before n own × AreBarsAfter p table c claim (before ++ own) narrowings bars

-- a leaf is empty by its heads under bars and all its sides, or its value under the bars and those sides by which it is valued, by the
-- prices, the spans and the gifts that it names, in whole units of money, rounded up to a multiple of the certificate's unit, is at least
-- the claim; without a side for each of these gifts it has no value. By a table by moments both are by the windows that these sides
-- narrow, and it has no value where a span that is charged doesn't pay there
abbrev pub IsLeafWorth : Problem → WindowTable → Statement → (claim : ℕ) → (bars : List Side) → Node → List Side → Type 0
IsLeafWorth p table c claim bars (node.Branch split) sides = ⊥
IsLeafWorth p table c claim bars (node.Narrow narrowing) sides = ⊥
IsLeafWorth p table c claim bars (node.Leaf v) sides =
    IsLeafEmptyBy (by_moments c.moments v.price.kind) p (windows_in table) (points_as_of p table.anchors c v.price.round) (bars ++ sides) (spans_beside c.spans v.price.kind)
    ⊎ ((value : ℕ)
    × IsLeafValueBy (by_moments c.moments v.price.kind) p (windows_in table) (points_as_of p table.anchors c v.price.round) (bars ++ sides_valued v sides) c.tables (spans_beside c.spans v.price.kind) (gifts_beside c.gifts v.price.kind) v.price.kind v.price.forced value
    × (claim ≤ rounded_up c.unit (div_ceil value p.scale)))

-- a leaf is worth the claim under the bars of the narrowings on its way and at itself
pub record IsNarrowedLeafWorth (p : Problem) (table : WindowTable) (c : Statement) (claim : ℕ) (l : NarrowedLeaf) : Type 0 where
  pub bars : List Side
  pub are : AreBarsAfter p table c claim [] l.narrowings bars
  pub worth : IsLeafWorth p table c claim bars l.node l.sides

-- each leaf of the tree is worth the claim so, under the sides on its way from the root
abbrev pub AreLeavesWorth : Problem → WindowTable → Statement → (claim : ℕ) → Type 0
AreLeavesWorth p table c claim = AllByRecursion (IsNarrowedLeafWorth p table c claim) (leaves_among p c.tree)
