-- What a contract sees of a `Tree`: the list of its nodes in preorder.
use Rattle.std.specs.Prelude.{◌≡◌, ℕ, ◌<◌, ◌≤◌, Bool, true, false, List, [], ◌∷◌, length, Option, Some, None, HoldsAt, option_map, slice_get, slice_index_or}
use Rattle.fp_tree.specs.declared.sides.Split.{Split}
use Rattle.fp_tree.specs.Sides.{Fork}
use Rattle.fp_tree.specs.Trees.{Leaf, tree_leaves, tree_splits}

-- What a node is: divided by a fork, or a leaf with a value and a mark whether it is closed.
pub data Role : Type 0 where
  Divided : (fork : Fork) → Role
  Undivided : (value : ℕ) (closed : Bool) → Role

-- A node, with the payload that it has as a leaf, or had before it was divided.
pub record Node (T : Type 0) : Type 0 where
  pub payload : T
  pub role : Role

module _ {T : Type 0} where
  -- The fork of a node that is divided.
  abbrev pub fork_of : Node T → Option Fork
  fork_of n = elim n.role as (λ r. Option Fork) [ Divided f ↦ Some f | Undivided value closed ↦ None ]

  -- The split of a node that is divided.
  abbrev pub split_of : Node T → Option Split
  split_of n = option_map (λ (f : Fork). f.split) (fork_of n)

  -- The value of a leaf.
  abbrev pub value_of : Node T → ℕ
  value_of n = elim n.role as (λ r. ℕ) [ Divided f ↦ 0 | Undivided value closed ↦ value ]

  -- Whether a leaf is closed.
  abbrev pub closed_of : Node T → Bool
  closed_of n = elim n.role as (λ r. Bool) [ Divided f ↦ false | Undivided value closed ↦ closed ]

  -- How many splits the tree has.
  abbrev pub split_count : List (Node T) → ℕ
  split_count nodes = length (tree_splits fork_of nodes)

  -- How many leaves the tree has.
  abbrev pub leaf_count : List (Node T) → ℕ
  leaf_count nodes = length (tree_leaves fork_of nodes)

  -- Leaf number k of the tree, with the sides on its way from the root.
  abbrev pub leaf_at : List (Node T) → ℕ → Option (Leaf (Node T))
  leaf_at nodes k = slice_get (tree_leaves fork_of nodes) k

  -- Split number k of the tree.
  abbrev pub split_at : List (Node T) → ℕ → Option (Node T)
  split_at nodes k = slice_get (tree_splits fork_of nodes) k

  -- A leaf that isn't closed.
  abbrev pub open_leaf : T → ℕ → Node T
  open_leaf payload value = record { payload = payload; role = Undivided value false }

  -- A leaf with another payload and value.
  abbrev pub put_leaf : T → ℕ → Node T → List (Node T)
  put_leaf payload value n = (record { payload = payload; role = Undivided value (closed_of n) }) ∷ []

  -- A leaf that is closed now.
  abbrev pub close_leaf : Node T → List (Node T)
  close_leaf n = (record { payload = n.payload; role = Undivided (value_of n) true }) ∷ []

  -- A leaf that is divided by a fork, and the two leaves below it.
  abbrev pub divide_leaf : Fork → Node T → Node T → Node T → List (Node T)
  divide_leaf f one two n = (record { payload = n.payload; role = Divided f }) ∷ one ∷ two ∷ []

-- Among the first n elements, number k isn't closed, no other that isn't has less value, and those
-- before it have more.
pub record IsFirstLeast {X : Type 0} (closed : X → Bool) (value : X → ℕ) (xs : List X) (n k : ℕ) : Type 0 where
  pub there : k < n
  pub is_open : HoldsAt (λ x. closed x ≡ false) xs k
  pub least : (j : ℕ) (d : X) → j < n → closed (slice_index_or xs j d) ≡ false → value (slice_index_or xs k d) ≤ value (slice_index_or xs j d)
  pub first : (j : ℕ) (d : X) → j < k → closed (slice_index_or xs j d) ≡ false → value (slice_index_or xs k d) < value (slice_index_or xs j d)

module _ {T : Type 0} where
  -- Leaf number k is the first of least value among the leaves that aren't closed.
  abbrev pub IsBestOpen : List (Node T) → ℕ → Type 0
  IsBestOpen nodes k = IsFirstLeast (λ (l : Leaf (Node T)). closed_of l.node) (λ l. value_of l.node) (tree_leaves fork_of nodes) (leaf_count nodes) k
