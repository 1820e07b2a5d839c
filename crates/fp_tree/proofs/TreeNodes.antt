-- What a contract says of the nodes that sound kinds, states and payloads are seen as.
use Rattle.std.proofs.Common.{◌≡◌, ℕ, ◌+◌, ◌<◌, true, List, [], ◌∷◌, length, map, count_by, get_or, set, refl, sym, ap, ◌∙◌, subst, arith}
use Rattle.std.specs.Prelude.{Option, Some, None, ◌↔◌, All, IsSomeAnd, option_map, slice_get}
use Rattle.std.proofs.lemmas.List.{length-set}
use Rattle.std.proofs.lemmas.Option.{slice_get-map, slice_get_read, none-some, same_Some}
use Rattle.fp_tree.specs.declared.layout.Kind.{Kind}
use Rattle.fp_tree.specs.declared.layout.LeafState.{LeafState}
use Rattle.fp_tree.specs.declared.sides.Side.{Side}
use Rattle.fp_tree.specs.Trees.{Leaf, IsTree, tree_leaves, tree_splits}
use Rattle.fp_tree.specs.Nodes.{Node, fork_of, split_of, split_count, leaf_count, leaf_at, split_at, value_of, closed_of, IsFirstLeast, IsBestOpen}
use Rattle.fp_tree.specs.Layout.{fork_of_kind, is_leaf_kind, split_of_kind, leaf_node, joined_nodes, IsSoundLayout}
use Rattle.fp_tree.proofs.BestLeaf.{IsFirstLeast-with_states, All-with_states}
use Rattle.fp_tree.proofs.StateChanges.{AreMatched-set}
use Rattle.fp_tree.proofs.JoinedNodes.{with_states, leaves_of-joined, AreTrees-joined, length-leaves_of-kinds, length-states, length-joined, tree_splits-joined, split_count-joined, slice_get-joined, slice_get-with_states, sides-with_states, length-with_states, count_by-kinds}

module _ {T : Type 0} (kinds : List Kind) (states : List (LeafState T)) (payloads : List T) (nodes : List (Node T)) (seen : joined_nodes kinds states payloads ≡ nodes) (sound : IsSoundLayout kinds states payloads) where
  -- the nodes are one tree
  pub IsTree-seen : IsTree fork_of nodes
  IsTree-seen = subst (λ (ns : List (Node T)). IsTree fork_of ns) seen (AreTrees-joined kinds states payloads 1 sound.matched sound.tree)

  -- there are as many leaves among the kinds as states
  pub leaves-kinds : length (tree_leaves fork_of_kind kinds) ≡ length states
  leaves-kinds = length-leaves_of-kinds kinds states payloads ([] ∷ []) sound.matched sound.tree

  -- the leaves are those of the kinds, with their states
  tree_leaves-seen : tree_leaves fork_of nodes ≡ with_states states (tree_leaves fork_of_kind kinds)
  tree_leaves-seen = ap (λ (ns : List (Node T)). tree_leaves fork_of ns) (sym seen) ∙ leaves_of-joined kinds states payloads ([] ∷ []) sound.matched

  -- there are as many leaves as states
  pub leaf_count-seen : leaf_count nodes ≡ length states
  leaf_count-seen = ap length tree_leaves-seen ∙ length-with_states states (tree_leaves fork_of_kind kinds) leaves-kinds

  -- there are as many leaves as kinds of leaves
  pub leaf_count-kinds : leaf_count nodes ≡ count_by is_leaf_kind kinds
  leaf_count-kinds = leaf_count-seen ∙ sym (count_by-kinds kinds states payloads sound.matched).0

  -- there are as many splits as payloads
  pub split_count-seen : split_count nodes ≡ length payloads
  split_count-seen = ap (λ (ns : List (Node T)). split_count ns) (sym seen) ∙ split_count-joined kinds states payloads sound.matched

  -- there is one leaf more than there are splits
  pub one_more-seen : length states ≡ length payloads + 1
  one_more-seen = length-states kinds states payloads 1 sound.matched sound.tree

  -- there are as many nodes as kinds
  pub length-kinds-seen : length nodes ≡ length kinds
  length-kinds-seen = ap length (sym seen) ∙ length-joined kinds states payloads sound.matched

  -- there are as many nodes as leaves and splits
  pub length-seen : length nodes ≡ length payloads + length states
  length-seen = omega (arith, length-kinds-seen, (count_by-kinds kinds states payloads sound.matched).1)

  -- a leaf that is read among the states
  pub leaf_at-seen : (k : ℕ) (s : LeafState T) (P : Node T → Type 0) → k < leaf_count nodes → s ≡ get_or states k s → P (leaf_node s) → IsSomeAnd (leaf_at nodes k) (λ l. P l.node)
  leaf_at-seen k s P within is p =
      subst (λ (leaves : List (Leaf (Node T))). IsSomeAnd (slice_get leaves k) (λ l. P l.node)) (sym tree_leaves-seen)
      (slice_get-with_states states (tree_leaves fork_of_kind kinds) k s P leaves-kinds (slice_get_read states (length states) k s refl (omega (arith, leaf_count-seen)) is) p)

  -- the sides of a leaf that are read among the kinds
  pub sides-seen : (k : ℕ) (sides : List Side) → IsSomeAnd (slice_get (tree_leaves fork_of_kind kinds) k) (λ l. l.sides ≡ sides) → IsSomeAnd (leaf_at nodes k) (λ l. l.sides ≡ sides)
  sides-seen k sides is =
      subst (λ (leaves : List (Leaf (Node T))). IsSomeAnd (slice_get leaves k) (λ l. l.sides ≡ sides)) (sym tree_leaves-seen)
      (sides-with_states states (tree_leaves fork_of_kind kinds) k sides leaves-kinds is)

  -- a split that is read among the payloads
  pub split_at-seen : (k : ℕ) (p : T) → k < split_count nodes → p ≡ get_or payloads k p → IsSomeAnd (split_at nodes k) (λ n. n.payload ≡ p)
  split_at-seen k p within is =
      payload_there (split_at nodes k)
      (sym (slice_get-map (λ (n : Node T). n.payload) (tree_splits fork_of nodes) k)
      ∙ ap (λ (ns : List (Node T)). slice_get (map (λ (n : Node T). n.payload) (tree_splits fork_of ns)) k) (sym seen)
      ∙ ap (λ (ps : List T). slice_get ps k) (tree_splits-joined kinds states payloads sound.matched)
      ∙ slice_get_read payloads (length payloads) k p refl (omega (arith, split_count-seen)) is)
    where
      payload_there : (o : Option (Node T)) → option_map (λ (n : Node T). n.payload) o ≡ Some p → IsSomeAnd o (λ n. n.payload ≡ p)
      payload_there None e = absurd (none-some p e)
      payload_there (Some n) e = same_Some n.payload p e

  -- a node that is read among the kinds
  pub split_of-seen : (i : ℕ) (k : Kind) → i < length nodes → k ≡ get_or kinds i k → IsSomeAnd (slice_get nodes i) (λ n. split_of n ≡ split_of_kind k)
  split_of-seen i k within is =
      subst (λ (ns : List (Node T)). IsSomeAnd (slice_get ns i) (λ n. split_of n ≡ split_of_kind k)) seen
      (slice_get-joined kinds states payloads i k sound.matched (slice_get_read kinds (length kinds) i k refl (omega (arith, length-kinds-seen)) is))

  -- the best by the states is the best open leaf
  pub IsBestOpen-seen : (k : ℕ) → IsFirstLeast (λ (s : LeafState T). s.closed) (λ s. s.value) states (length states) k → IsBestOpen nodes k
  IsBestOpen-seen k best =
      subst (λ (leaves : List (Leaf (Node T))). IsFirstLeast (λ (l : Leaf (Node T)). closed_of l.node) (λ l. value_of l.node) leaves (leaf_count nodes) k) (sym tree_leaves-seen)
      (subst (λ (n : ℕ). IsFirstLeast (λ (l : Leaf (Node T)). closed_of l.node) (λ l. value_of l.node) (with_states states (tree_leaves fork_of_kind kinds)) n k) (sym leaf_count-seen)
      (IsFirstLeast-with_states states (tree_leaves fork_of_kind kinds) k leaves-kinds best))

  -- all states are closed exactly where all leaves are
  pub All_closed-seen : All (λ (s : LeafState T). s.closed ≡ true) states ↔ All (λ (l : Leaf (Node T)). closed_of l.node ≡ true) (tree_leaves fork_of nodes)
  All_closed-seen =
      subst (λ (leaves : List (Leaf (Node T))). All (λ (s : LeafState T). s.closed ≡ true) states ↔ All (λ (l : Leaf (Node T)). closed_of l.node ≡ true) leaves) (sym tree_leaves-seen)
      (All-with_states states (tree_leaves fork_of_kind kinds) leaves-kinds)

  -- another state in place of one leaves the number of leaves
  pub leaf_count-set : (k : ℕ) (s : LeafState T) → leaf_count (joined_nodes kinds (set states k s) payloads) ≡ leaf_count nodes
  leaf_count-set k s =
      ap length (leaves_of-joined kinds (set states k s) payloads ([] ∷ []) (AreMatched-set kinds states payloads k s sound.matched))
      ∙ length-with_states (set states k s) (tree_leaves fork_of_kind kinds) (leaves-kinds ∙ sym (length-set states k s)) ∙ length-set states k s ∙ sym leaf_count-seen

  -- and that of splits
  pub split_count-set : (k : ℕ) (s : LeafState T) → split_count (joined_nodes kinds (set states k s) payloads) ≡ split_count nodes
  split_count-set k s = split_count-joined kinds (set states k s) payloads (AreMatched-set kinds states payloads k s sound.matched) ∙ sym split_count-seen
