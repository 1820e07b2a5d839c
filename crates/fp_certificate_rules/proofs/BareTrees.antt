-- Trees with narrowings: without these lines they are trees, with the same leaves; and trees that have none.
use Rattle.std.proofs.Common.{◌≡◌, ◌∙◌, ℕ, zero, suc, false, ◌≤◌, List, [], ◌∷◌, ◌++◌, length, map, refl, sym, ap, subst, arith, append_assoc}
use Rattle.std.specs.List.{AllByRecursion}
use Rattle.std.proofs.lemmas.Bool.{true≢false}
use Rattle.std.proofs.lemmas.List.{append-nil}
use Rattle.fp_base_lists.proofs.Elements.{AllByRecursion-from_map, AllByRecursion-map, AllByRecursion-push, AllByRecursion-weaker}
use Rattle.fp_model.specs.Problem.{Problem}
use Rattle.fp_flatnet.specs.Tables.{WindowTable}
use Rattle.fp_tree.specs.declared.layout.TheConstants.{MOST_SPLITS}
use Rattle.fp_tree.specs.declared.sides.Side.{Side}
use Rattle.fp_tree.specs.Sides.{Fork, first, second}
use Rattle.fp_tree.specs.Trees.{AreTrees, IsTree, Leaf, leaves_of, tree_leaves, tree_splits}
use Rattle.fp_certificate_lines.specs.declared.certificates.Node.{Node}
use Rattle.fp_certificate_lines.specs.declared.certificates.Node.TheVariants as node
use Rattle.fp_certificate_lines.specs.Statements.{Statement}
use Rattle.fp_certificate_rules.specs.Leaves.{AreLeavesWorth, AreNarrowedTrees, HasTree, IsLeafWorth, IsNarrowedLeafWorth, NarrowedLeaf, PendingTree, PlacedNarrowing, bare_nodes, below_side, fork_of, is_narrowing, leaves_among, narrowed_leaves, narrowings_among, split_tail, with_narrowing}

-- without its narrowings, a leaf is one of a tree
abbrev pub bare_leaf : NarrowedLeaf → Leaf Node
bare_leaf l = record { node = l.node; sides = l.sides }

-- the sides of trees that are to come
abbrev pub pending_sides : List PendingTree → List (List Side)
pending_sides pending = map (λ (t : PendingTree). t.sides) pending

-- without narrowings, as many trees are left
pub bare-trees : (p : Problem) (pending : ℕ) (nodes : List Node) → AreNarrowedTrees pending nodes → AreTrees (fork_of p) pending (bare_nodes nodes)
bare-trees p pending [] trees = trees
bare-trees p zero (x ∷ nodes) trees = absurd trees
bare-trees p (suc pending) (node.Branch split ∷ nodes) trees = bare-trees p (suc (suc pending)) nodes trees
bare-trees p (suc pending) (node.Leaf valuation ∷ nodes) trees = bare-trees p pending nodes trees
bare-trees p (suc pending) (node.Narrow narrowing ∷ nodes) trees = bare-trees p (suc pending) nodes trees

-- and the same splits
pub bare-splits : (p : Problem) (nodes : List Node) → tree_splits (fork_of p) (bare_nodes nodes) ≡ tree_splits (fork_of p) nodes
bare-splits p [] = refl
bare-splits p (node.Branch split ∷ nodes) = ap (λ (xs : List Node). node.Branch split ∷ xs) (bare-splits p nodes)
bare-splits p (node.Leaf valuation ∷ nodes) = bare-splits p nodes
bare-splits p (node.Narrow narrowing ∷ nodes) = bare-splits p nodes

-- no tree has no leaf
no-trees : (p : Problem) (nodes : List Node) → leaves_of (fork_of p) [] nodes ≡ []
no-trees p [] = refl
no-trees p (x ∷ nodes) = refl

-- and the same leaves, in the same order
pub bare-leaves : (p : Problem) (pending : List PendingTree) (nodes : List Node) → map bare_leaf (narrowed_leaves p pending nodes) ≡ leaves_of (fork_of p) (pending_sides pending) (bare_nodes nodes)
bare-leaves p pending [] = refl
bare-leaves p [] (x ∷ nodes) = sym (no-trees p (bare_nodes (x ∷ nodes)))
bare-leaves p (tree ∷ pending) (node.Branch split ∷ nodes) =
    let fork : Fork = record { split = split; tail = split_tail p split } in
    bare-leaves p (below_side tree (first fork) ∷ below_side tree (second fork) ∷ pending) nodes
bare-leaves p (tree ∷ pending) (node.Leaf valuation ∷ nodes) =
    ap (λ (leaves : List (Leaf Node)). (record { node = node.Leaf valuation; sides = tree.sides }) ∷ leaves) (bare-leaves p pending nodes)
bare-leaves p (tree ∷ pending) (node.Narrow narrowing ∷ nodes) = bare-leaves p (with_narrowing tree narrowing ∷ pending) nodes

-- a narrowing stands at a node on the way that has these sides
abbrev pub IsOnWay : List Side → PlacedNarrowing → Type 0
IsOnWay sides n = (rest : List Side) × (n.sides ++ rest ≡ sides)

-- so do all of them
abbrev pub AreOnWay : List Side → List PlacedNarrowing → Type 0
AreOnWay sides narrowings = AllByRecursion (IsOnWay sides) narrowings

-- also where the way goes on
on_way-below : (sides : List Side) (side : Side) (narrowings : List PlacedNarrowing) → AreOnWay sides narrowings → AreOnWay (sides ++ (side ∷ [])) narrowings
on_way-below sides side narrowings on =
    AllByRecursion-weaker (IsOnWay sides) (IsOnWay (sides ++ (side ∷ [])))
    (λ n here. (here.0 ++ (side ∷ []), sym (append_assoc n.sides here.0 (side ∷ [])) ∙ ap (λ (s : List Side). s ++ (side ∷ [])) here.1))
    narrowings on

-- the narrowings of each leaf stand on its way
pub narrowed-on_way : (p : Problem) (pending : List PendingTree) (nodes : List Node) → AllByRecursion (λ (t : PendingTree). AreOnWay t.sides t.narrowings) pending →
    AllByRecursion (λ (l : NarrowedLeaf). AreOnWay l.sides l.narrowings) (narrowed_leaves p pending nodes)
narrowed-on_way p pending [] on = tt
narrowed-on_way p [] (x ∷ nodes) on = tt
narrowed-on_way p (tree ∷ pending) (node.Branch split ∷ nodes) on =
    let fork : Fork = record { split = split; tail = split_tail p split } in
    narrowed-on_way p (below_side tree (first fork) ∷ below_side tree (second fork) ∷ pending) nodes
    (on_way-below tree.sides (first fork) tree.narrowings on.0, (on_way-below tree.sides (second fork) tree.narrowings on.0, on.1))
narrowed-on_way p (tree ∷ pending) (node.Leaf valuation ∷ nodes) on = (on.0, narrowed-on_way p pending nodes on.1)
narrowed-on_way p (tree ∷ pending) (node.Narrow narrowing ∷ nodes) on =
    narrowed-on_way p (with_narrowing tree narrowing ∷ pending) nodes
    (AllByRecursion-push (IsOnWay tree.sides) tree.narrowings (record { narrowing = narrowing; sides = tree.sides }) on.0 ([], append-nil tree.sides), on.1)

-- no line is a narrowing
abbrev pub HaveNoNarrowing : List Node → Type 0
HaveNoNarrowing nodes = AllByRecursion (λ x. is_narrowing x ≡ false) nodes

-- a leaf without narrowings
abbrev pub plain_leaf : Leaf Node → NarrowedLeaf
plain_leaf l = record { node = l.node; sides = l.sides; narrowings = [] }

-- a tree that is to come, without narrowings
abbrev pub plain_tree : List Side → PendingTree
plain_tree sides = record { sides = sides; narrowings = [] }

-- then the nodes are the lines
pub bare-same : (nodes : List Node) → HaveNoNarrowing nodes → bare_nodes nodes ≡ nodes
bare-same [] none = refl
bare-same (node.Branch split ∷ nodes) none = ap (λ (xs : List Node). node.Branch split ∷ xs) (bare-same nodes none.1)
bare-same (node.Leaf valuation ∷ nodes) none = ap (λ (xs : List Node). node.Leaf valuation ∷ xs) (bare-same nodes none.1)
bare-same (node.Narrow narrowing ∷ nodes) none = absurd (true≢false none.0)

-- none of them is a narrowing
pub narrowings-none : (nodes : List Node) → HaveNoNarrowing nodes → narrowings_among nodes ≡ []
narrowings-none [] none = refl
narrowings-none (node.Branch split ∷ nodes) none = narrowings-none nodes none.1
narrowings-none (node.Leaf valuation ∷ nodes) none = narrowings-none nodes none.1
narrowings-none (node.Narrow narrowing ∷ nodes) none = absurd (true≢false none.0)

-- trees are trees with narrowings
pub trees-narrowed : (p : Problem) (pending : ℕ) (nodes : List Node) → HaveNoNarrowing nodes → AreTrees (fork_of p) pending nodes → AreNarrowedTrees pending nodes
trees-narrowed p pending [] none trees = trees
trees-narrowed p zero (x ∷ nodes) none trees = absurd trees
trees-narrowed p (suc pending) (node.Branch split ∷ nodes) none trees = trees-narrowed p (suc (suc pending)) nodes none.1 trees
trees-narrowed p (suc pending) (node.Leaf valuation ∷ nodes) none trees = trees-narrowed p pending nodes none.1 trees
trees-narrowed p (suc pending) (node.Narrow narrowing ∷ nodes) none trees = absurd (true≢false none.0)

-- and the leaves are the tree's
plain-leaves : (p : Problem) (pending : List (List Side)) (nodes : List Node) → HaveNoNarrowing nodes → narrowed_leaves p (map plain_tree pending) nodes ≡ map plain_leaf (leaves_of (fork_of p) pending nodes)
plain-leaves p pending [] none = refl
plain-leaves p [] (x ∷ nodes) none = refl
plain-leaves p (sides ∷ pending) (node.Branch split ∷ nodes) none =
    let fork : Fork = record { split = split; tail = split_tail p split } in
    plain-leaves p ((sides ++ (first fork ∷ [])) ∷ (sides ++ (second fork ∷ [])) ∷ pending) nodes none.1
plain-leaves p (sides ∷ pending) (node.Leaf valuation ∷ nodes) none =
    ap (λ (leaves : List NarrowedLeaf). plain_leaf (record { node = node.Leaf valuation; sides = sides }) ∷ leaves) (plain-leaves p pending nodes none.1)
plain-leaves p (sides ∷ pending) (node.Narrow narrowing ∷ nodes) none = absurd (true≢false none.0)

pub leaves-plain : (p : Problem) (nodes : List Node) → HaveNoNarrowing nodes → leaves_among p nodes ≡ map plain_leaf (tree_leaves (fork_of p) nodes)
leaves-plain p nodes none = plain-leaves p ([] ∷ []) nodes none

module _ (p : Problem) (c : Statement) (none : HaveNoNarrowing c.tree) where
  -- without narrowings, one tree of so many splits is as a certificate's has to be
  pub HasTree-plain : IsTree (fork_of p) c.tree → length (tree_splits (fork_of p) c.tree) ≤ MOST_SPLITS → HasTree p c
  HasTree-plain tree few = record { tree = trees-narrowed p 1 c.tree none tree; few = few; narrowings = omega (arith, ap (λ (xs : List Node). length xs) (narrowings-none c.tree none)) }

  -- and its leaves are worth a claim where they are without bars
  pub AreLeavesWorth-plain : (table : WindowTable) (claim : ℕ) → AllByRecursion (λ (l : Leaf Node). IsLeafWorth p table c claim [] l.node l.sides) (tree_leaves (fork_of p) c.tree) → AreLeavesWorth p table c claim
  AreLeavesWorth-plain table claim worth =
      subst (λ (leaves : List NarrowedLeaf). AllByRecursion (IsNarrowedLeafWorth p table c claim) leaves) (sym (leaves-plain p c.tree none))
      (AllByRecursion-map (IsNarrowedLeafWorth p table c claim) plain_leaf (tree_leaves (fork_of p) c.tree)
      (AllByRecursion-weaker (λ (l : Leaf Node). IsLeafWorth p table c claim [] l.node l.sides) (λ (l : Leaf Node). IsNarrowedLeafWorth p table c claim (plain_leaf l))
      (λ l here. record { bars = []; are = refl; worth = here }) (tree_leaves (fork_of p) c.tree) worth))

  -- and only there
  pub AreLeavesWorth-bare : (table : WindowTable) (claim : ℕ) → AreLeavesWorth p table c claim → AllByRecursion (λ (l : Leaf Node). IsLeafWorth p table c claim [] l.node l.sides) (tree_leaves (fork_of p) c.tree)
  AreLeavesWorth-bare table claim worth =
      AllByRecursion-weaker (λ (l : Leaf Node). IsNarrowedLeafWorth p table c claim (plain_leaf l)) (λ (l : Leaf Node). IsLeafWorth p table c claim [] l.node l.sides)
      (λ l here. subst (λ (bars : List Side). IsLeafWorth p table c claim bars l.node l.sides) here.are here.worth)
      (tree_leaves (fork_of p) c.tree)
      (AllByRecursion-from_map (IsNarrowedLeafWorth p table c claim) plain_leaf (tree_leaves (fork_of p) c.tree)
      (subst (λ (leaves : List NarrowedLeaf). AllByRecursion (IsNarrowedLeafWorth p table c claim) leaves) (leaves-plain p c.tree none) worth))
