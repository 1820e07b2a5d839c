-- How a `Tree` lays out its nodes. No public clause cites this module.
use Rattle.std.specs.Prelude.{◌≡◌, ℕ, ◌<◌, ◌≤◌, true, false, Bool, List, [], ◌∷◌, length, take, count_by, HoldsAt, slice_index_or, Option, Some, None, IfSome}
use Rattle.fp_tree.specs.declared.sides.Split.{Split}
use Rattle.fp_tree.specs.declared.layout.Kind.{Kind}
use Rattle.fp_tree.specs.declared.layout.Kind.TheVariants.{Divided as DividedKind, Leaf as LeafKind}
use Rattle.fp_tree.specs.declared.layout.LeafState.{LeafState}
use Rattle.fp_tree.specs.declared.layout.TheConstants.{MOST_SPLITS}
use Rattle.fp_tree.specs.Sides.{Fork}
use Rattle.fp_tree.specs.Trees.{IsTree}
use Rattle.fp_tree.specs.Nodes.{Node, Divided, Undivided}

-- The fork of a kind.
abbrev pub fork_of_kind : Kind → Option Fork
fork_of_kind (DividedKind split tail) = Some (record { split = split; tail = tail })
fork_of_kind LeafKind = None

-- Whether a kind is that of a leaf.
abbrev pub is_leaf_kind : Kind → Bool
is_leaf_kind (DividedKind split tail) = false
is_leaf_kind LeafKind = true

-- The split of a kind.
abbrev pub split_of_kind : Kind → Option Split
split_of_kind (DividedKind split tail) = Some split
split_of_kind LeafKind = None

-- Leaf number k stands at that place of the preorder.
pub record IsPlaceOfLeaf (kinds : List Kind) (k place : ℕ) : Type 0 where
  pub there : place < length kinds
  pub is_leaf : slice_index_or kinds place LeafKind ≡ LeafKind
  pub before : count_by is_leaf_kind (take place kinds) ≡ k

module _ {T : Type 0} where
  -- The leaf isn't closed, and has less value than the best so far.
  pub record IsBetterLeaf (states : List (LeafState T)) (leaf : ℕ) (best : Option ℕ) : Type 0 where
    pub is_open : HoldsAt (λ s. s.closed ≡ false) states leaf
    pub less : IfSome best (λ b. (d : LeafState T) → (slice_index_or states leaf d).value < (slice_index_or states b d).value)

  -- The node of a leaf.
  abbrev pub leaf_node : LeafState T → Node T
  leaf_node s = record { payload = s.payload; role = Undivided s.value s.closed }

  -- The node of a split.
  abbrev pub split_node : Fork → T → Node T
  split_node f payload = record { payload = payload; role = Divided f }

  -- The nodes in preorder, where the leaves among them have these states and the splits these
  -- payloads.
  abbrev pub joined_nodes : List Kind → List (LeafState T) → List T → List (Node T)
  joined_nodes [] states payloads = []
  joined_nodes (LeafKind ∷ kinds) [] payloads = []
  joined_nodes (LeafKind ∷ kinds) (s ∷ states) payloads = leaf_node s ∷ joined_nodes kinds states payloads
  joined_nodes (DividedKind split tail ∷ kinds) states [] = []
  joined_nodes (DividedKind split tail ∷ kinds) states (p ∷ payloads) =
      split_node (record { split = split; tail = tail }) p ∷ joined_nodes kinds states payloads

  -- There is a state for each leaf and a payload for each split.
  abbrev pub AreMatched : List Kind → List (LeafState T) → List T → Type 0
  AreMatched [] [] [] = Unit {0}
  AreMatched [] [] (p ∷ payloads) = ⊥
  AreMatched [] (s ∷ states) payloads = ⊥
  AreMatched (LeafKind ∷ kinds) [] payloads = ⊥
  AreMatched (LeafKind ∷ kinds) (s ∷ states) payloads = AreMatched kinds states payloads
  AreMatched (DividedKind split tail ∷ kinds) states [] = ⊥
  AreMatched (DividedKind split tail ∷ kinds) states (p ∷ payloads) = AreMatched kinds states payloads

  -- The kinds are a tree of at most MOST_SPLITS splits, with all that its nodes have.
  pub record IsSoundLayout (kinds : List Kind) (states : List (LeafState T)) (payloads : List T) : Type 0 where
    pub tree : IsTree fork_of_kind kinds
    pub matched : AreMatched kinds states payloads
    pub few : length payloads ≤ MOST_SPLITS
