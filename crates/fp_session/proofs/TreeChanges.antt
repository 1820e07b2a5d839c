-- What holds of all leaves and of all splits of a tree, where one leaf is changed.
use Rattle.std.proofs.Common.{◌≡◌, ℕ, zero, suc, Bool, true, false, List, [], ◌∷◌, ◌++◌, refl, sym, subst}
use Rattle.std.specs.Prelude.{All, Some, slice_get}
use Rattle.std.proofs.lemmas.List.Elements.{All-append, All-cons, All-head, All-nil, All-tail}
use Rattle.std.proofs.lemmas.Option.{none-some, same_Some}
use Rattle.fp_tree.specs.declared.sides.Side.{Side}
use Rattle.fp_tree.specs.Nodes.{Divided, Node, Undivided, close_leaf, closed_of, divide_leaf, fork_of, leaf_at, open_leaf, put_leaf, value_of}
use Rattle.fp_tree.specs.Sides.{Fork, HasTail, first, second}
use Rattle.fp_tree.specs.Trees.{Branch, HaveTails, Leaf, tree_branches, tree_leaves, with_leaf}
use Rattle.fp_tree.proofs.Branches.{All-divide_leaf, branches_of-kept_leaf, fork_of-leaf}
use Rattle.fp_tree.proofs.LeafChange.{HaveTails-with_leaf, leaves_of-with_leaf, with_element}

-- what holds of all elements and of what takes the place of one
All-with_element : {X : Type 0} (P : X → Type 0) (change : X → List X) (k : ℕ) (xs : List X) (x : X) → slice_get xs k ≡ Some x → All P xs → All P (change x) → All P (with_element change k xs)
All-with_element P change k [] x is all new = absurd (none-some x is)
All-with_element P change zero (y ∷ xs) x is all new =
    subst (λ z. All P (change z ++ xs)) (sym (same_Some y x is)) (All-append P (change x) xs new (All-tail P y xs all))
All-with_element P change (suc k) (y ∷ xs) x is all new = All-cons P y (with_element change k xs) (All-head P y xs all) (All-with_element P change k xs x is (All-tail P y xs all) new)

module _ {T : Type 0} where
  -- a leaf of a tree in another's place
  abbrev pub leaf_put : T → ℕ → Bool → List Side → Leaf (Node T)
  leaf_put payload value closed sides = record { node = record { payload = payload; role = Undivided value closed }; sides = sides }

  module _ (nodes : List (Node T)) (k : ℕ) (l : Leaf (Node T)) (is : leaf_at nodes k ≡ Some l) where
    -- what holds of all leaves, after one got another payload and value
    pub leaves-put : (P : Leaf (Node T) → Type 0) (payload : T) (value : ℕ) → All P (tree_leaves fork_of nodes) → P (leaf_put payload value (closed_of l.node) l.sides) →
        All P (tree_leaves fork_of (with_leaf fork_of (put_leaf payload value) k nodes))
    leaves-put P payload value all new =
        subst (All P) (sym (leaves_of-with_leaf fork_of (put_leaf payload value) (λ x leaf. refl) nodes ([] ∷ []) k))
        (All-with_element P (λ m. leaf_put payload value (closed_of m.node) m.sides ∷ []) k (tree_leaves fork_of nodes) l is all (All-cons P (leaf_put payload value (closed_of l.node) l.sides) [] new (All-nil P)))

    -- after one was closed
    pub leaves-close : (P : Leaf (Node T) → Type 0) → All P (tree_leaves fork_of nodes) → P (leaf_put l.node.payload (value_of l.node) true l.sides) →
        All P (tree_leaves fork_of (with_leaf fork_of close_leaf k nodes))
    leaves-close P all new =
        subst (All P) (sym (leaves_of-with_leaf fork_of close_leaf (λ x leaf. refl) nodes ([] ∷ []) k))
        (All-with_element P (λ m. leaf_put m.node.payload (value_of m.node) true m.sides ∷ []) k (tree_leaves fork_of nodes) l is all
        (All-cons P (leaf_put l.node.payload (value_of l.node) true l.sides) [] new (All-nil P)))

    -- and after one was divided
    pub leaves-divide : (P : Leaf (Node T) → Type 0) (f : Fork) (one two : T) (v w : ℕ) → All P (tree_leaves fork_of nodes) → P (leaf_put one v false (l.sides ++ (first f ∷ []))) →
        P (leaf_put two w false (l.sides ++ (second f ∷ []))) → All P (tree_leaves fork_of (with_leaf fork_of (divide_leaf f (open_leaf one v) (open_leaf two w)) k nodes))
    leaves-divide P f one two v w all new other =
        subst (All P) (sym (leaves_of-with_leaf fork_of (divide_leaf f (open_leaf one v) (open_leaf two w)) (λ x leaf. refl) nodes ([] ∷ []) k))
        (All-with_element P (λ m. leaf_put one v false (m.sides ++ (first f ∷ [])) ∷ leaf_put two w false (m.sides ++ (second f ∷ [])) ∷ []) k (tree_leaves fork_of nodes) l is all
        (All-cons P (leaf_put one v false (l.sides ++ (first f ∷ []))) (leaf_put two w false (l.sides ++ (second f ∷ [])) ∷ []) new
        (All-cons P (leaf_put two w false (l.sides ++ (second f ∷ []))) [] other (All-nil P))))

    -- the splits stay where a leaf stays one
    pub branches-put : (payload : T) (value : ℕ) → tree_branches fork_of (with_leaf fork_of (put_leaf payload value) k nodes) ≡ tree_branches fork_of nodes
    branches-put payload value =
        branches_of-kept_leaf fork_of (λ n. record { payload = payload; role = Undivided value (closed_of n) }) (λ x leaf. refl) nodes ([] ∷ []) k l is (fork_of-leaf fork_of nodes ([] ∷ []) k l is)

    pub branches-close : tree_branches fork_of (with_leaf fork_of close_leaf k nodes) ≡ tree_branches fork_of nodes
    branches-close =
        branches_of-kept_leaf fork_of (λ n. record { payload = n.payload; role = Undivided (value_of n) true }) (λ x leaf. refl) nodes ([] ∷ []) k l is (fork_of-leaf fork_of nodes ([] ∷ []) k l is)

    -- where it is divided there is one more
    pub branches-divide : (P : Branch (Node T) → Type 0) (f : Fork) (one two : T) (v w : ℕ) → All P (tree_branches fork_of nodes) →
        P (record { node = record { payload = l.node.payload; role = Divided f }; sides = l.sides }) → All P (tree_branches fork_of (with_leaf fork_of (divide_leaf f (open_leaf one v) (open_leaf two w)) k nodes))
    branches-divide P f one two v w all new = All-divide_leaf P f (open_leaf one v) (open_leaf two w) refl refl nodes k l is all new

-- the tails stay told
pub tails-put : {T : Type 0} (tails : ℕ → ℕ) (payload : T) (value : ℕ) (nodes : List (Node T)) (k : ℕ) → HaveTails tails fork_of nodes → HaveTails tails fork_of (with_leaf fork_of (put_leaf payload value) k nodes)
tails-put tails payload value nodes k have = HaveTails-with_leaf fork_of tails (put_leaf payload value) (λ x leaf. (tt, tt)) nodes k have

pub tails-close : {T : Type 0} (tails : ℕ → ℕ) (nodes : List (Node T)) (k : ℕ) → HaveTails tails fork_of nodes → HaveTails tails fork_of (with_leaf fork_of close_leaf k nodes)
tails-close tails nodes k have = HaveTails-with_leaf fork_of tails close_leaf (λ x leaf. (tt, tt)) nodes k have

pub tails-divide : {T : Type 0} (tails : ℕ → ℕ) (f : Fork) (one two : T) (v w : ℕ) (nodes : List (Node T)) (k : ℕ) → HasTail tails f → HaveTails tails fork_of nodes →
    HaveTails tails fork_of (with_leaf fork_of (divide_leaf f (open_leaf one v) (open_leaf two w)) k nodes)
tails-divide tails f one two v w nodes k told have = HaveTails-with_leaf fork_of tails (divide_leaf f (open_leaf one v) (open_leaf two w)) (λ x leaf. (told, (tt, (tt, tt)))) nodes k have
