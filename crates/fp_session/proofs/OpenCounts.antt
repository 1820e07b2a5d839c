-- How many leaves of a tree are open, and which splits it has, where one leaf is changed.
use Rattle.std.proofs.Common.{◌≡◌, ℕ, zero, suc, ◌+◌, Bool, true, false, List, [], ◌∷◌, ◌++◌, refl, ap, ◌∙◌, subst, arith}
use Rattle.std.specs.List.{insert}
use Rattle.std.specs.Prelude.{Some, cond, count_by, not, slice_get}
use Rattle.std.proofs.lemmas.List.Sums.{sum_by-append, sum_by-cons}
use Rattle.std.proofs.lemmas.Option.{none-some, same_Some}
use Rattle.fp_tree.specs.Nodes.{Divided, Node, close_leaf, closed_of, divide_leaf, fork_of, leaf_at, open_leaf, put_leaf}
use Rattle.fp_tree.specs.Sides.{Fork, first, second}
use Rattle.fp_tree.specs.Trees.{Branch, Leaf, splits_before, tree_branches, tree_leaves, with_leaf}
use Rattle.fp_tree.proofs.Branches.{tree_branches-divide_leaf}
use Rattle.fp_tree.proofs.LeafChange.{leaves_of-with_leaf, with_element}
use Rattle.fp_session.specs.declared.payloads.Payload.{Payload}
use Rattle.fp_session.specs.Moves.{AtOpenLeaf}
use Rattle.fp_session.specs.StepCauses.{open_count}
use Rattle.fp_session.proofs.Applied.{leaf_at-put, some-value}
use Rattle.fp_session.proofs.TreeChanges.{branches-close, branches-put, leaf_put}

-- elements that are counted, where one is replaced by others
count-with_element : {X : Type 0} (P : X → Bool) (change : X → List X) (k : ℕ) (xs : List X) (x : X) → slice_get xs k ≡ Some x →
    count_by P (with_element change k xs) + cond (P x) 1 0 ≡ count_by P xs + count_by P (change x)
count-with_element P change k [] x at = absurd (none-some x at)
count-with_element P change zero (y ∷ xs) x at =
    subst (λ z. count_by P (change y ++ xs) + cond (P z) 1 0 ≡ count_by P (y ∷ xs) + count_by P (change z)) (same_Some y x at)
    (omega (arith, sum_by-append (λ z. cond (P z) 1 0) (change y) xs, sum_by-cons (λ z. cond (P z) 1 0) y xs))
count-with_element P change (suc k) (y ∷ xs) x at =
    omega (arith, count-with_element P change k xs x at, sum_by-cons (λ z. cond (P z) 1 0) y xs, sum_by-cons (λ z. cond (P z) 1 0) y (with_element change k xs))

abbrev one_if : Bool → ℕ
one_if b = cond b 1 0

-- whether a leaf is open
abbrev is_open : Leaf (Node Payload) → Bool
is_open l = not (closed_of l.node)

module _ (nodes : List (Node Payload)) (k : ℕ) (l : Leaf (Node Payload)) (at : leaf_at nodes k ≡ Some l) where
  -- as many as before where a leaf got another payload and value
  pub open_count-put : (payload : Payload) (value : ℕ) (changed : List (Node Payload)) → changed ≡ with_leaf fork_of (put_leaf payload value) k nodes → open_count changed ≡ open_count nodes
  open_count-put payload value changed is =
      let change : Leaf (Node Payload) → List (Leaf (Node Payload)) = λ (m : Leaf (Node Payload)). leaf_put payload value (closed_of m.node) m.sides ∷ [] in
      let leaves : tree_leaves fork_of changed ≡ with_element change k (tree_leaves fork_of nodes) =
      ap (λ (ns : List (Node Payload)). tree_leaves fork_of ns) is ∙ leaves_of-with_leaf fork_of (put_leaf payload value) (λ x leaf. refl) nodes ([] ∷ []) k in
      omega (
        arith,
        ap (count_by is_open) leaves,
        count-with_element is_open change k (tree_leaves fork_of nodes) l at,
        sum_by-cons (λ (m : Leaf (Node Payload)). cond (is_open m) 1 0) (leaf_put payload value (closed_of l.node) l.sides) [],
      )

  -- one fewer where an open leaf was closed
  pub open_count-close : (changed : List (Node Payload)) → closed_of l.node ≡ false → changed ≡ with_leaf fork_of close_leaf k nodes → open_count changed + 1 ≡ open_count nodes
  open_count-close changed still is =
      let change : Leaf (Node Payload) → List (Leaf (Node Payload)) = λ (m : Leaf (Node Payload)). leaf_put m.node.payload (Rattle.fp_tree.specs.Nodes.value_of m.node) true m.sides ∷ [] in
      let leaves : tree_leaves fork_of changed ≡ with_element change k (tree_leaves fork_of nodes) =
      ap (λ (ns : List (Node Payload)). tree_leaves fork_of ns) is ∙ leaves_of-with_leaf fork_of close_leaf (λ x leaf. refl) nodes ([] ∷ []) k in
      let one : one_if (is_open l) ≡ 1 = ap (λ (b : Bool). one_if (not b)) still in
      omega (arith, ap (count_by is_open) leaves, count-with_element is_open change k (tree_leaves fork_of nodes) l at, one)

  -- one more where an open leaf was divided
  pub open_count-divide : (f : Fork) (one two : Payload) (v w : ℕ) (changed : List (Node Payload)) → closed_of l.node ≡ false →
      changed ≡ with_leaf fork_of (divide_leaf f (open_leaf one v) (open_leaf two w)) k nodes → open_count changed ≡ open_count nodes + 1
  open_count-divide f one two v w changed still is =
      let change : Leaf (Node Payload) → List (Leaf (Node Payload)) = λ (m : Leaf (Node Payload)). leaf_put one v false (m.sides ++ (first f ∷ [])) ∷ leaf_put two w false (m.sides ++ (second f ∷ [])) ∷ [] in
      let leaves : tree_leaves fork_of changed ≡ with_element change k (tree_leaves fork_of nodes) =
      ap (λ (ns : List (Node Payload)). tree_leaves fork_of ns) is ∙ leaves_of-with_leaf fork_of (divide_leaf f (open_leaf one v) (open_leaf two w)) (λ x leaf. refl) nodes ([] ∷ []) k in
      let was : one_if (is_open l) ≡ 1 = ap (λ (b : Bool). one_if (not b)) still in
      omega (arith, ap (count_by is_open) leaves, count-with_element is_open change k (tree_leaves fork_of nodes) l at, was)

module _ (nodes put : List (Node Payload)) (k : ℕ) (payload : Payload) (value : ℕ) (P : Leaf (Node Payload) → Type 0) (still : AtOpenLeaf nodes k P) (changed : put ≡ with_leaf fork_of (put_leaf payload value) k nodes) where
  chosen : (l : Leaf (Node Payload)) × (leaf_at nodes k ≡ Some l) × ((closed_of l.node ≡ false) × P l)
  chosen = some-value (leaf_at nodes k) (λ (l : Leaf (Node Payload)). (closed_of l.node ≡ false) × P l) still

  now : leaf_at put k ≡ Some (leaf_put payload value (closed_of chosen.0.node) chosen.0.sides)
  now = ap (λ (ns : List (Node Payload)). leaf_at ns k) changed ∙ leaf_at-put nodes k chosen.0 chosen.1 payload value

  -- an open leaf that something is kept of
  pub leaves-kept : open_count put ≡ open_count nodes
  leaves-kept = open_count-put nodes k chosen.0 chosen.1 payload value put changed

  -- and that is closed
  pub leaves-closed : (shut : List (Node Payload)) → shut ≡ with_leaf fork_of close_leaf k put → open_count nodes ≡ open_count shut + 1
  leaves-closed shut closed =
      omega (arith, leaves-kept, open_count-close put k (leaf_put payload value (closed_of chosen.0.node) chosen.0.sides) now shut chosen.2.0 closed)

  -- or divided
  pub leaves-divided : (f : Fork) (one two : Payload) (v w : ℕ) (divided : List (Node Payload)) → divided ≡ with_leaf fork_of (divide_leaf f (open_leaf one v) (open_leaf two w)) k put →
      open_count divided ≡ open_count nodes + 1
  leaves-divided f one two v w divided parted =
      omega (arith, leaves-kept, open_count-divide put k (leaf_put payload value (closed_of chosen.0.node) chosen.0.sides) now f one two v w divided chosen.2.0 parted)

  -- the splits stay where something is kept of an open leaf
  pub branches-kept : tree_branches fork_of put ≡ tree_branches fork_of nodes
  branches-kept = ap (λ (ns : List (Node Payload)). tree_branches fork_of ns) changed ∙ branches-put nodes k chosen.0 chosen.1 payload value

  -- and where it is closed
  pub branches-closed : (shut : List (Node Payload)) → shut ≡ with_leaf fork_of close_leaf k put → tree_branches fork_of shut ≡ tree_branches fork_of nodes
  branches-closed shut closed =
      ap (λ (ns : List (Node Payload)). tree_branches fork_of ns) closed
      ∙ branches-close put k (leaf_put payload value (closed_of chosen.0.node) chosen.0.sides) now
      ∙ branches-kept

  -- and there is one more, with what was kept, where it is divided
  pub branches-divided : (f : Fork) (one two : Payload) (v w : ℕ) (divided : List (Node Payload)) → divided ≡ with_leaf fork_of (divide_leaf f (open_leaf one v) (open_leaf two w)) k put →
      (b : Branch (Node Payload)) × (tree_branches fork_of divided ≡ insert (tree_branches fork_of nodes) (splits_before fork_of k put) b) × (b.node.payload ≡ payload)
  branches-divided f one two v w divided parted =
      let b : Branch (Node Payload) = record { node = record { payload = payload; role = Divided f }; sides = chosen.0.sides } in (
        b,
        ap (λ (ns : List (Node Payload)). tree_branches fork_of ns) parted
            ∙ tree_branches-divide_leaf f (open_leaf one v) (open_leaf two w) refl refl put k (leaf_put payload value (closed_of chosen.0.node) chosen.0.sides) now
            ∙ ap (λ (bs : List (Branch (Node Payload))). insert bs (splits_before fork_of k put) b) branches-kept,
        refl,
      )
