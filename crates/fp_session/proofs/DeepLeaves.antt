-- How many sides the leaves of a tree have.
use Rattle.std.proofs.Common.{◌≡◌, ℕ, ◌+◌, ◌≤◌, cond, List, [], ◌∷◌, ◌++◌, length, ⊎_elim, sym, ap, subst, arith}
use Rattle.std.specs.Prelude.{IfOk, IsSomeAnd, Option, None, Some, Result, Ok, Err, is_some}
use Rattle.std.specs.declared.alloc.AllocError.{AllocError}
use Rattle.std.specs.declared.alloc.Global.{Global}
use Rattle.std.specs.declared.vec.Vec.{Vec}
use Rattle.std.specs.List.{AllByRecursion}
use Rattle.std.proofs.lemmas.List.{length-append}
use Rattle.std.proofs.lemmas.List.Elements.{All-from_recursion}
use Rattle.fp_base_lists.proofs.Elements.{AllByRecursion-weaker}
use Rattle.fp_tree.specs.declared.sides.Side.{Side}
use Rattle.fp_tree.specs.Nodes.{Node, fork_of as fork_at, leaf_at, split_count}
use Rattle.fp_tree.specs.Sides.{Fork, first, second}
use Rattle.fp_tree.specs.Trees.{Leaf, leaves_of, tree_leaves, tree_splits}
use Rattle.fp_tree.proofs.Branches.{fork_cases, leaves_of-leaf, leaves_of-split, pending_below}
use Rattle.fp_session.proofs.Applied.{some-value}
use Rattle.fp_session.proofs.WholeTrees.{all-at}

module _ {X : Type 0} (fork_of : X → Option Fork) (most : ℕ) where
  -- a tree to come, with the splits among so many nodes, has few sides
  abbrev IsShallow : ℕ → List Side → Type 0
  IsShallow splits sides = length sides + splits ≤ most

  -- a leaf has few sides
  abbrev pub IsNear : Leaf X → Type 0
  IsNear l = length l.sides ≤ most

  -- the splits among a node and others, by what it splits
  splits-more : (x : X) (nodes : List X) (o : Option Fork) → fork_of x ≡ o → length (tree_splits fork_of (x ∷ nodes)) ≡ cond (is_some o) (length (tree_splits fork_of nodes) + 1) (length (tree_splits fork_of nodes))
  splits-more x nodes None is = rw is (omega arith)
  splits-more x nodes (Some f) is = rw is (omega arith)

  near-leaves : (nodes : List X) (pending : List (List Side)) → AllByRecursion (IsShallow (length (tree_splits fork_of nodes))) pending → AllByRecursion IsNear (leaves_of fork_of pending nodes)
  near-leaves [] pending all = tt
  near-leaves (x ∷ nodes) [] all = tt
  near-leaves (x ∷ nodes) (sides ∷ pending) all =
      ⊎_elim
      (λ (is : fork_of x ≡ None).
      let count : length (tree_splits fork_of (x ∷ nodes)) ≡ length (tree_splits fork_of nodes) = splits-more x nodes None is in
      let here : length sides ≤ most = omega (arith, all.0) in
      subst (AllByRecursion IsNear) (sym (leaves_of-leaf fork_of sides pending x nodes is))
      (here, near-leaves nodes pending (subst (λ (n : ℕ). AllByRecursion (IsShallow n) pending) count all.1)))
      (λ (s : (f : Fork) × (fork_of x ≡ Some f)).
      let count : length (tree_splits fork_of (x ∷ nodes)) ≡ length (tree_splits fork_of nodes) + 1 = splits-more x nodes (Some s.0) s.1 in
      let fewer : AllByRecursion (IsShallow (length (tree_splits fork_of nodes))) pending =
      AllByRecursion-weaker (IsShallow (length (tree_splits fork_of (x ∷ nodes)))) (IsShallow (length (tree_splits fork_of nodes))) (λ other few. omega (arith, few, count)) pending all.1 in
      let below : (side : Side) → IsShallow (length (tree_splits fork_of nodes)) (sides ++ (side ∷ [])) = λ side. omega (arith, all.0, count, length-append sides (side ∷ [])) in
      subst (AllByRecursion IsNear) (sym (leaves_of-split fork_of sides pending x nodes s.0 s.1))
      (near-leaves nodes (pending_below sides pending s.0) (below (first s.0), (below (second s.0), fewer))))
      (fork_cases (fork_of x))

  -- no leaf of a tree has more sides than the tree has splits
  pub near-tree : (nodes : List X) → length (tree_splits fork_of nodes) ≤ most → AllByRecursion IsNear (tree_leaves fork_of nodes)
  near-tree nodes few = near-leaves nodes ([] ∷ []) (omega (arith, few), tt)

-- so what is read of the sides of a leaf has few
pub near-at : {T : Type 0} (nodes : List (Node T)) (most k : ℕ) → split_count nodes ≤ most → (r : Result (Vec Side Global) AllocError) → IfOk r (λ (sides : Vec Side Global). IsSomeAnd (leaf_at nodes k) (λ (l : Leaf (Node T)). l.sides ≡ sides.items)) →
    IfOk r (λ (sides : Vec Side Global). length sides.items ≤ most)
near-at nodes most k few (Ok sides) is =
    let some = some-value (leaf_at nodes k) (λ (l : Leaf (Node _)). l.sides ≡ sides.items) is in
    let near : length some.0.sides ≤ most = all-at (IsNear fork_at most) (tree_leaves fork_at nodes) k some.0 (All-from_recursion (IsNear fork_at most) (tree_leaves fork_at nodes) (near-tree fork_at most nodes few)) some.1 in
    omega (arith, near, ap (λ (ss : List Side). length ss) some.2)
near-at nodes most k few (Err e) is = tt
