-- What is so of joined nodes, by what is so of their kinds, states and payloads.
use Rattle.std.proofs.Common.{◌≡◌, ℕ, zero, suc, ◌+◌, cond, List, [], ◌∷◌, length, map, count_by, refl, sym, ap, ◌∙◌, subst, arith}
use Rattle.std.specs.Prelude.{Some, IsSomeAnd, slice_get}
use Rattle.std.proofs.lemmas.List.{length-map}
use Rattle.std.proofs.lemmas.List.Sums.{sum_by-cons}
use Rattle.std.proofs.lemmas.Option.{none-some, same_Some}
use Rattle.fp_tree.specs.declared.layout.Kind.{Kind}
use Rattle.fp_tree.specs.declared.layout.Kind.TheVariants.{Divided as DividedKind, Leaf as LeafKind}
use Rattle.fp_tree.specs.declared.layout.LeafState.{LeafState}
use Rattle.fp_tree.specs.declared.sides.Side.{Side}
use Rattle.fp_tree.specs.Trees.{Leaf, leaves_of, AreTrees, tree_splits}
use Rattle.fp_tree.specs.Nodes.{Node, fork_of, split_of, split_count}
use Rattle.fp_tree.specs.Layout.{fork_of_kind, is_leaf_kind, split_of_kind, leaf_node, joined_nodes, AreMatched}

module _ {T : Type 0} where
  -- leaves of kinds, with the states of the leaves
  abbrev pub with_states : List (LeafState T) → List (Leaf Kind) → List (Leaf (Node T))
  with_states [] leaves = []
  with_states (s ∷ states) [] = []
  with_states (s ∷ states) (l ∷ leaves) = (record { node = leaf_node s; sides = l.sides }) ∷ with_states states leaves

  -- the leaves of joined nodes are those of their kinds, with their states
  pub leaves_of-joined : (kinds : List Kind) (states : List (LeafState T)) (payloads : List T) (pending : List (List Side)) → AreMatched kinds states payloads →
      leaves_of fork_of pending (joined_nodes kinds states payloads) ≡ with_states states (leaves_of fork_of_kind pending kinds)
  leaves_of-joined [] [] payloads pending m = refl
  leaves_of-joined [] (s ∷ states) payloads pending m = absurd m
  leaves_of-joined (LeafKind ∷ kinds) [] payloads pending m = absurd m
  leaves_of-joined (LeafKind ∷ kinds) (s ∷ states) payloads [] m = refl
  leaves_of-joined (LeafKind ∷ kinds) (s ∷ states) payloads (sides ∷ pending) m =
      ap (λ (leaves : List (Leaf (Node T))). (record { node = leaf_node s; sides = sides }) ∷ leaves) (leaves_of-joined kinds states payloads pending m)
  leaves_of-joined (DividedKind split tail ∷ kinds) states [] pending m = absurd m
  leaves_of-joined (DividedKind split tail ∷ kinds) [] (p ∷ payloads) [] m = refl
  leaves_of-joined (DividedKind split tail ∷ kinds) (s ∷ states) (p ∷ payloads) [] m = refl
  leaves_of-joined (DividedKind split tail ∷ kinds) states (p ∷ payloads) (sides ∷ pending) m = leaves_of-joined kinds states payloads _ m

  -- joined nodes are as many trees as their kinds
  pub AreTrees-joined : (kinds : List Kind) (states : List (LeafState T)) (payloads : List T) (n : ℕ) → AreMatched kinds states payloads → AreTrees fork_of_kind n kinds →
      AreTrees fork_of n (joined_nodes kinds states payloads)
  AreTrees-joined [] [] payloads n m trees = trees
  AreTrees-joined [] (s ∷ states) payloads n m trees = absurd m
  AreTrees-joined (k ∷ kinds) states payloads zero m trees = absurd trees
  AreTrees-joined (LeafKind ∷ kinds) [] payloads (suc n) m trees = absurd m
  AreTrees-joined (LeafKind ∷ kinds) (s ∷ states) payloads (suc n) m trees = AreTrees-joined kinds states payloads n m trees
  AreTrees-joined (DividedKind split tail ∷ kinds) states [] (suc n) m trees = absurd m
  AreTrees-joined (DividedKind split tail ∷ kinds) states (p ∷ payloads) (suc n) m trees = AreTrees-joined kinds states payloads (suc (suc n)) m trees

  -- there are as many leaves as states
  pub length-leaves_of-kinds : (kinds : List Kind) (states : List (LeafState T)) (payloads : List T) (pending : List (List Side)) → AreMatched kinds states payloads →
      AreTrees fork_of_kind (length pending) kinds → length (leaves_of fork_of_kind pending kinds) ≡ length states
  length-leaves_of-kinds [] [] payloads pending m trees = refl
  length-leaves_of-kinds [] (s ∷ states) payloads pending m trees = absurd m
  length-leaves_of-kinds (k ∷ kinds) states payloads [] m trees = absurd trees
  length-leaves_of-kinds (LeafKind ∷ kinds) [] payloads (sides ∷ pending) m trees = absurd m
  length-leaves_of-kinds (LeafKind ∷ kinds) (s ∷ states) payloads (sides ∷ pending) m trees = ap suc (length-leaves_of-kinds kinds states payloads pending m trees)
  length-leaves_of-kinds (DividedKind split tail ∷ kinds) states [] (sides ∷ pending) m trees = absurd m
  length-leaves_of-kinds (DividedKind split tail ∷ kinds) states (p ∷ payloads) (sides ∷ pending) m trees = length-leaves_of-kinds kinds states payloads _ m trees

  -- each tree has one leaf more than it has splits
  pub length-states : (kinds : List Kind) (states : List (LeafState T)) (payloads : List T) (n : ℕ) → AreMatched kinds states payloads → AreTrees fork_of_kind n kinds →
      length states ≡ length payloads + n
  length-states [] [] [] n m trees = omega (arith, trees)
  length-states [] [] (p ∷ payloads) n m trees = absurd m
  length-states [] (s ∷ states) payloads n m trees = absurd m
  length-states (k ∷ kinds) states payloads zero m trees = absurd trees
  length-states (LeafKind ∷ kinds) [] payloads (suc n) m trees = absurd m
  length-states (LeafKind ∷ kinds) (s ∷ states) payloads (suc n) m trees = omega (arith, length-states kinds states payloads n m trees)
  length-states (DividedKind split tail ∷ kinds) states [] (suc n) m trees = absurd m
  length-states (DividedKind split tail ∷ kinds) states (p ∷ payloads) (suc n) m trees = omega (arith, length-states kinds states payloads (suc (suc n)) m trees)

  -- the leaves among the kinds are as many as the states, and the kinds as many as states and
  -- payloads
  pub count_by-kinds : (kinds : List Kind) (states : List (LeafState T)) (payloads : List T) → AreMatched kinds states payloads →
      (count_by is_leaf_kind kinds ≡ length states) × (length kinds ≡ length states + length payloads)
  count_by-kinds [] [] [] m = (refl, refl)
  count_by-kinds [] [] (p ∷ payloads) m = absurd m
  count_by-kinds [] (s ∷ states) payloads m = absurd m
  count_by-kinds (LeafKind ∷ kinds) [] payloads m = absurd m
  count_by-kinds (LeafKind ∷ kinds) (s ∷ states) payloads m =
      let rest = count_by-kinds kinds states payloads m in
      (omega (arith, sum_by-cons (λ k. cond (is_leaf_kind k) 1 0) LeafKind kinds, rest.0), omega (arith, rest.1))
  count_by-kinds (DividedKind split tail ∷ kinds) states [] m = absurd m
  count_by-kinds (DividedKind split tail ∷ kinds) states (p ∷ payloads) m =
      let rest = count_by-kinds kinds states payloads m in
      (omega (arith, sum_by-cons (λ k. cond (is_leaf_kind k) 1 0) (DividedKind split tail) kinds, rest.0), omega (arith, rest.1))

  -- there are as many nodes as kinds
  pub length-joined : (kinds : List Kind) (states : List (LeafState T)) (payloads : List T) → AreMatched kinds states payloads → length (joined_nodes kinds states payloads) ≡ length kinds
  length-joined [] states payloads m = refl
  length-joined (LeafKind ∷ kinds) [] payloads m = absurd m
  length-joined (LeafKind ∷ kinds) (s ∷ states) payloads m = ap suc (length-joined kinds states payloads m)
  length-joined (DividedKind split tail ∷ kinds) states [] m = absurd m
  length-joined (DividedKind split tail ∷ kinds) states (p ∷ payloads) m = ap suc (length-joined kinds states payloads m)

  -- the splits among joined nodes have the payloads
  pub tree_splits-joined : (kinds : List Kind) (states : List (LeafState T)) (payloads : List T) → AreMatched kinds states payloads →
      map (λ (n : Node T). n.payload) (tree_splits fork_of (joined_nodes kinds states payloads)) ≡ payloads
  tree_splits-joined [] [] [] m = refl
  tree_splits-joined [] [] (p ∷ payloads) m = absurd m
  tree_splits-joined [] (s ∷ states) payloads m = absurd m
  tree_splits-joined (LeafKind ∷ kinds) [] payloads m = absurd m
  tree_splits-joined (LeafKind ∷ kinds) (s ∷ states) payloads m = tree_splits-joined kinds states payloads m
  tree_splits-joined (DividedKind split tail ∷ kinds) states [] m = absurd m
  tree_splits-joined (DividedKind split tail ∷ kinds) states (p ∷ payloads) m = ap (λ (ps : List T). p ∷ ps) (tree_splits-joined kinds states payloads m)

  -- there are as many splits as payloads
  pub split_count-joined : (kinds : List Kind) (states : List (LeafState T)) (payloads : List T) → AreMatched kinds states payloads → split_count (joined_nodes kinds states payloads) ≡ length payloads
  split_count-joined kinds states payloads m =
      sym (length-map (tree_splits fork_of (joined_nodes kinds states payloads)) (λ (n : Node T). n.payload)) ∙ ap length (tree_splits-joined kinds states payloads m)

  -- a node splits as its kind does
  pub slice_get-joined : (kinds : List Kind) (states : List (LeafState T)) (payloads : List T) (i : ℕ) (k : Kind) → AreMatched kinds states payloads → slice_get kinds i ≡ Some k →
      IsSomeAnd (slice_get (joined_nodes kinds states payloads) i) (λ n. split_of n ≡ split_of_kind k)
  slice_get-joined [] states payloads i k m is = absurd (none-some k is)
  slice_get-joined (LeafKind ∷ kinds) [] payloads i k m is = absurd m
  slice_get-joined (LeafKind ∷ kinds) (s ∷ states) payloads zero k m is = ap split_of_kind (same_Some LeafKind k is)
  slice_get-joined (LeafKind ∷ kinds) (s ∷ states) payloads (suc i) k m is = slice_get-joined kinds states payloads i k m is
  slice_get-joined (DividedKind split tail ∷ kinds) states [] i k m is = absurd m
  slice_get-joined (DividedKind split tail ∷ kinds) states (p ∷ payloads) zero k m is = ap split_of_kind (same_Some (DividedKind split tail) k is)
  slice_get-joined (DividedKind split tail ∷ kinds) states (p ∷ payloads) (suc i) k m is = slice_get-joined kinds states payloads i k m is

  -- a leaf with a state, where there are as many leaves as states
  pub slice_get-with_states : (states : List (LeafState T)) (leaves : List (Leaf Kind)) (k : ℕ) (s : LeafState T) (P : Node T → Type 0) → length leaves ≡ length states → slice_get states k ≡ Some s →
      P (leaf_node s) → IsSomeAnd (slice_get (with_states states leaves) k) (λ l. P l.node)
  slice_get-with_states [] leaves k s P same is p = absurd (none-some s is)
  slice_get-with_states (x ∷ states) [] k s P same is p = absurd (omega (arith, same))
  slice_get-with_states (x ∷ states) (l ∷ leaves) zero s P same is p = subst (λ (y : LeafState T). P (leaf_node y)) (sym (same_Some x s is)) p
  slice_get-with_states (x ∷ states) (l ∷ leaves) (suc k) s P same is p = slice_get-with_states states leaves k s P (omega (arith, same)) is p

  -- the sides of a leaf with a state
  pub sides-with_states : (states : List (LeafState T)) (leaves : List (Leaf Kind)) (k : ℕ) (sides : List Side) → length leaves ≡ length states →
      IsSomeAnd (slice_get leaves k) (λ l. l.sides ≡ sides) → IsSomeAnd (slice_get (with_states states leaves) k) (λ l. l.sides ≡ sides)
  sides-with_states states [] k sides same is = absurd is
  sides-with_states [] (l ∷ leaves) k sides same is = absurd (omega (arith, same))
  sides-with_states (x ∷ states) (l ∷ leaves) zero sides same is = is
  sides-with_states (x ∷ states) (l ∷ leaves) (suc k) sides same is = sides-with_states states leaves k sides (omega (arith, same)) is

  -- there are as many leaves with a state as states
  pub length-with_states : (states : List (LeafState T)) (leaves : List (Leaf Kind)) → length leaves ≡ length states → length (with_states states leaves) ≡ length states
  length-with_states [] leaves same = refl
  length-with_states (x ∷ states) [] same = absurd (omega (arith, same))
  length-with_states (x ∷ states) (l ∷ leaves) same = ap suc (length-with_states states leaves (omega (arith, same)))
