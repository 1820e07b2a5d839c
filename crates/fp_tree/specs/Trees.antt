-- Trees of splits as lists of nodes in preorder: a split, the nodes below its first side, the nodes
-- below its second. X is any type of nodes. `fork_of` tells at what a node splits, and None at a
-- leaf.
use Rattle.std.specs.Prelude.{ℕ, zero, suc, ◌≡◌, ◌≢◌, ◌<◌, List, [], ◌∷◌, ◌++◌, filter, is_some, Option, Some, None, IfSome, slice_index_or, false}
use Rattle.std.specs.List.{AllByRecursion}
use Rattle.fp_base_lists.specs.Elements.{AnyByRecursion}
use Rattle.fp_tree.specs.declared.sides.Side.{Side}
use Rattle.fp_tree.specs.Sides.{AreCounts, Counts, Exit, Fork, HasCounts, HasTail, HasWays, Obeys, first, second}

-- A node that is a leaf, with the sides on its way from the root.
pub record Leaf (X : Type 0) : Type 0 where
  pub node : X
  pub sides : List Side

-- The leaves among nodes, where `pending` has the sides of the trees that the nodes make: a split
-- opens two trees in place of one.
abbrev pub leaves_of : {X : Type 0} → (X → Option Fork) → List (List Side) → List X → List (Leaf X)
leaves_of fork_of pending [] = []
leaves_of fork_of [] (x ∷ nodes) = []
leaves_of {X} fork_of (sides ∷ pending) (x ∷ nodes) =
    elim (fork_of x) as (λ o. List (Leaf X)) [
      | None ↦ (record { node = x; sides = sides }) ∷ leaves_of fork_of pending nodes
      | Some f ↦ leaves_of fork_of ((sides ++ (first f ∷ [])) ∷ (sides ++ (second f ∷ [])) ∷ pending) nodes
    ]

-- A node that is a split, with the sides on its way from the root.
pub record Branch (X : Type 0) : Type 0 where
  pub node : X
  pub sides : List Side

-- The splits among nodes, with their sides, where `pending` has the sides of the trees that the
-- nodes make.
abbrev pub branches_of : {X : Type 0} → (X → Option Fork) → List (List Side) → List X → List (Branch X)
branches_of fork_of pending [] = []
branches_of fork_of [] (x ∷ nodes) = []
branches_of {X} fork_of (sides ∷ pending) (x ∷ nodes) =
    elim (fork_of x) as (λ o. List (Branch X)) [
      | None ↦ branches_of fork_of pending nodes
      | Some f ↦ (record { node = x; sides = sides }) ∷ branches_of fork_of ((sides ++ (first f ∷ [])) ∷ (sides ++ (second f ∷ [])) ∷ pending) nodes
    ]

-- The nodes are exactly so many trees, one after another.
abbrev pub AreTrees : {X : Type 0} → (X → Option Fork) → ℕ → List X → Type 0
AreTrees fork_of pending [] = pending ≡ 0
AreTrees fork_of zero (x ∷ nodes) = ⊥
AreTrees fork_of (suc pending) (x ∷ nodes) =
    elim (fork_of x) as (λ o. Type 0) [ None ↦ AreTrees fork_of pending nodes | Some f ↦ AreTrees fork_of (suc (suc pending)) nodes ]

-- The nodes are exactly one tree.
abbrev pub IsTree : {X : Type 0} → (X → Option Fork) → List X → Type 0
IsTree fork_of nodes = AreTrees fork_of 1 nodes

-- The leaves of a tree, in preorder.
abbrev pub tree_leaves : {X : Type 0} → (X → Option Fork) → List X → List (Leaf X)
tree_leaves fork_of nodes = leaves_of fork_of ([] ∷ []) nodes

-- The nodes of a tree that are splits, in preorder.
abbrev pub tree_splits : {X : Type 0} → (X → Option Fork) → List X → List X
tree_splits fork_of nodes = filter (λ x. is_some (fork_of x)) nodes

-- The splits of a tree, each with the sides on its way, in preorder.
abbrev pub tree_branches : {X : Type 0} → (X → Option Fork) → List X → List (Branch X)
tree_branches fork_of nodes = branches_of fork_of ([] ∷ []) nodes

-- The measure of the sides below a split falls at both of its children.
abbrev pub FallsBelow : {X : Type 0} → (X → Option Fork) → (List Side → ℕ) → Branch X → Type 0
FallsBelow fork_of measure b =
    IfSome (fork_of b.node) (λ f. (measure (b.sides ++ (first f ∷ [])) < measure b.sides) × (measure (b.sides ++ (second f ∷ [])) < measure b.sides))

-- How many splits stand before leaf number k in preorder. Where there is no such leaf, all of them
-- do.
abbrev pub splits_before : {X : Type 0} → (X → Option Fork) → ℕ → List X → ℕ
splits_before fork_of k [] = 0
splits_before fork_of zero (x ∷ nodes) = elim (fork_of x) as (λ o. ℕ) [ None ↦ 0 | Some f ↦ suc (splits_before fork_of zero nodes) ]
splits_before fork_of (suc k) (x ∷ nodes) =
    elim (fork_of x) as (λ o. ℕ) [ None ↦ splits_before fork_of k nodes | Some f ↦ suc (splits_before fork_of (suc k) nodes) ]

-- Both are leaves, or both split, with the same two sides.
abbrev pub SplitAlike : Option Fork → Option Fork → Type 0
SplitAlike None None = Unit {0}
SplitAlike None (Some g) = ⊥
SplitAlike (Some f) None = ⊥
SplitAlike (Some f) (Some g) = (first f ≡ first g) × (second f ≡ second g)

-- The nodes with leaf number k replaced by what `change` makes of it.
abbrev pub with_leaf : {X : Type 0} → (X → Option Fork) → (X → List X) → ℕ → List X → List X
with_leaf fork_of change k [] = []
with_leaf {X} fork_of change zero (x ∷ nodes) =
    elim (fork_of x) as (λ o. List X) [ None ↦ change x ++ nodes | Some f ↦ x ∷ with_leaf fork_of change zero nodes ]
with_leaf {X} fork_of change (suc k) (x ∷ nodes) =
    elim (fork_of x) as (λ o. List X) [ None ↦ x ∷ with_leaf fork_of change k nodes | Some f ↦ x ∷ with_leaf fork_of change (suc k) nodes ]

-- The arc of neither of two legs is a rival of the other's.
pub record AreNoRivals (e f : Exit) : Type 0 where
  pub one : e.is_rival f.arc ≡ false
  pub other : f.is_rival e.arc ≡ false

-- The legs of one shipment go by arcs whose tails are as told, no two of them leave the same terminal,
-- and none of their arcs is a rival of one of them.
abbrev pub LeaveApart : (ℕ → ℕ) → List Exit → Type 0
LeaveApart tails [] = Unit {0}
LeaveApart tails (e ∷ exits) =
    (e.tail ≡ tails e.arc) × AllByRecursion (λ (f : Exit). f.tail ≢ e.tail) exits × LeaveApart tails exits × (e.is_rival e.arc ≡ false) × AllByRecursion (AreNoRivals e) exits

-- Each split by an arc has the tail of its arc.
abbrev pub HaveTails : {X : Type 0} → (ℕ → ℕ) → (X → Option Fork) → List X → Type 0
HaveTails tails fork_of nodes = AllByRecursion (λ x. IfSome (fork_of x) (HasTail tails)) nodes

-- Each way of sending shipments, over any denominator and with trucks that are counted in any way,
-- obeys all sides of some leaf, has so many trucks as they ask, and goes by the arcs that they ask for.
abbrev pub CoversAll : {X : Type 0} → (ℕ → ℕ) → List (Leaf X) → Type 0
CoversAll tails leaves =
    (d : ℕ) (routes : List (List Exit)) (counts : Counts) → ((k : ℕ) → LeaveApart tails (slice_index_or routes k [])) → AreCounts d routes counts →
    AnyByRecursion (λ l. Obeys d routes l.sides × HasCounts counts l.sides × HasWays routes l.sides) leaves
