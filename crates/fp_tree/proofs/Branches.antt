-- The splits of a tree with the sides on their ways, and what a change of one leaf makes of them.
use Rattle.std.proofs.Common.{◌≡◌, ℕ, zero, suc, cond, List, [], ◌∷◌, ◌++◌, ◌⊎◌, ⊎_elim, inl, inr, length, map, take, drop, All, refl, sym, ap, ◌∙◌, subst}
use Rattle.std.specs.Prelude.{Option, Some, None, is_some, slice_get}
use Rattle.std.specs.List.{insert}
use Rattle.std.proofs.lemmas.List.{length-map, take-append-drop}
use Rattle.std.proofs.lemmas.List.Elements.{All-append, All-cons, All-drop, All-take}
use Rattle.std.proofs.lemmas.Option.{none-some, same_Some}
use Rattle.fp_tree.specs.declared.sides.Side.{Side}
use Rattle.fp_tree.specs.Sides.{Fork, first, second}
use Rattle.fp_tree.specs.Trees.{AreTrees, Branch, IsTree, Leaf, branches_of, leaves_of, splits_before, tree_branches, tree_splits, with_leaf}
use Rattle.fp_tree.specs.Nodes.{Divided, Node, divide_leaf, fork_of as fork_of_node, leaf_at}
use Rattle.fp_tree.proofs.Walks.{leaves_at}

-- a node is a leaf, or splits by a fork
pub fork_cases : (o : Option Fork) → (o ≡ None) ⊎ ((f : Fork) × (o ≡ Some f))
fork_cases None = inl refl
fork_cases (Some f) = inr (f, refl)

-- the sides of the trees to come, below a split
abbrev pub pending_below : List Side → List (List Side) → Fork → List (List Side)
pending_below sides pending f = (sides ++ (first f ∷ [])) ∷ (sides ++ (second f ∷ [])) ∷ pending

module _ {X : Type 0} (fork_of : X → Option Fork) where
  -- the splits from a node on, by its fork
  abbrev pub branches_at : List Side → List (List Side) → X → List X → Option Fork → List (Branch X)
  branches_at sides pending x nodes o = elim o as (λ p. List (Branch X)) [
    | None ↦ branches_of fork_of pending nodes
    | Some f ↦ (record { node = x; sides = sides }) ∷ branches_of fork_of (pending_below sides pending f) nodes
  ]

  -- the nodes with a first leaf replaced, by the fork of the first node
  abbrev pub first_at : (X → List X) → X → List X → Option Fork → List X
  first_at change x nodes o = elim o as (λ p. List X) [ None ↦ change x ++ nodes | Some f ↦ x ∷ with_leaf fork_of change zero nodes ]

  -- and with a later leaf replaced
  abbrev pub later_at : (X → List X) → ℕ → X → List X → Option Fork → List X
  later_at change k x nodes o = elim o as (λ p. List X) [ None ↦ x ∷ with_leaf fork_of change k nodes | Some f ↦ x ∷ with_leaf fork_of change (suc k) nodes ]

  -- so many trees from a node on, by its fork
  abbrev pub trees_at : ℕ → List X → Option Fork → Type 0
  trees_at n nodes o = elim o as (λ p. Type 0) [ None ↦ AreTrees fork_of n nodes | Some f ↦ AreTrees fork_of (suc (suc n)) nodes ]

  -- a leaf is no split
  pub branches_of-leaf : (sides : List Side) (pending : List (List Side)) (x : X) (nodes : List X) → fork_of x ≡ None →
      branches_of fork_of (sides ∷ pending) (x ∷ nodes) ≡ branches_of fork_of pending nodes
  branches_of-leaf sides pending x nodes is = ap (branches_at sides pending x nodes) is

  -- a split has the sides on its way
  pub branches_of-split : (sides : List Side) (pending : List (List Side)) (x : X) (nodes : List X) (f : Fork) → fork_of x ≡ Some f →
      branches_of fork_of (sides ∷ pending) (x ∷ nodes) ≡ (record { node = x; sides = sides }) ∷ branches_of fork_of (pending_below sides pending f) nodes
  branches_of-split sides pending x nodes f is = ap (branches_at sides pending x nodes) is

  -- the leaves below a leaf, and below a split
  pub leaves_of-leaf : (sides : List Side) (pending : List (List Side)) (x : X) (nodes : List X) → fork_of x ≡ None →
      leaves_of fork_of (sides ∷ pending) (x ∷ nodes) ≡ (record { node = x; sides = sides }) ∷ leaves_of fork_of pending nodes
  leaves_of-leaf sides pending x nodes is = ap (leaves_at fork_of sides pending x nodes) is

  pub leaves_of-split : (sides : List Side) (pending : List (List Side)) (x : X) (nodes : List X) (f : Fork) → fork_of x ≡ Some f →
      leaves_of fork_of (sides ∷ pending) (x ∷ nodes) ≡ leaves_of fork_of (pending_below sides pending f) nodes
  leaves_of-split sides pending x nodes f is = ap (leaves_at fork_of sides pending x nodes) is

  -- the splits of trees, and of others after them
  pub branches_of-append : (nodes rest : List X) (pending later : List (List Side)) → AreTrees fork_of (length pending) nodes →
      branches_of fork_of (pending ++ later) (nodes ++ rest) ≡ branches_of fork_of pending nodes ++ branches_of fork_of later rest
  branches_of-append [] rest [] later trees = refl
  branches_of-append [] rest (sides ∷ pending) later trees = absurd (cc trees)
  branches_of-append (x ∷ nodes) rest [] later trees = absurd trees
  branches_of-append (x ∷ nodes) rest (sides ∷ pending) later trees =
      ⊎_elim
      (λ (is : fork_of x ≡ None).
      branches_of-leaf sides (pending ++ later) x (nodes ++ rest) is ∙ branches_of-append nodes rest pending later (subst (trees_at (length pending) nodes) is trees)
      ∙ ap (λ (bs : List (Branch X)). bs ++ branches_of fork_of later rest) (sym (branches_of-leaf sides pending x nodes is)))
      (λ (s : (f : Fork) × (fork_of x ≡ Some f)).
      branches_of-split sides (pending ++ later) x (nodes ++ rest) s.0 s.1
      ∙ ap (λ (bs : List (Branch X)). (record { node = x; sides = sides }) ∷ bs)
      (branches_of-append nodes rest (pending_below sides pending s.0) later (subst (trees_at (length pending) nodes) s.1 trees))
      ∙ ap (λ (bs : List (Branch X)). bs ++ branches_of fork_of later rest) (sym (branches_of-split sides pending x nodes s.0 s.1)))
      (fork_cases (fork_of x))

  -- the nodes of the splits, without their sides, are the splits
  pub map-branches_of : (nodes : List X) (pending : List (List Side)) → AreTrees fork_of (length pending) nodes → map (λ (b : Branch X). b.node) (branches_of fork_of pending nodes) ≡ tree_splits fork_of nodes
  map-branches_of [] pending trees = refl
  map-branches_of (x ∷ nodes) [] trees = absurd trees
  map-branches_of (x ∷ nodes) (sides ∷ pending) trees =
      ⊎_elim
      (λ (is : fork_of x ≡ None).
      ap (map (λ (b : Branch X). b.node)) (branches_of-leaf sides pending x nodes is) ∙ map-branches_of nodes pending (subst (trees_at (length pending) nodes) is trees) ∙ sym (tree_splits-leaf is))
      (λ (s : (f : Fork) × (fork_of x ≡ Some f)).
      ap (map (λ (b : Branch X). b.node)) (branches_of-split sides pending x nodes s.0 s.1)
      ∙ ap (λ (xs : List X). x ∷ xs) (map-branches_of nodes (pending_below sides pending s.0) (subst (trees_at (length pending) nodes) s.1 trees)) ∙ sym (tree_splits-split s.0 s.1))
      (fork_cases (fork_of x))
    where
      tree_splits-leaf : fork_of x ≡ None → tree_splits fork_of (x ∷ nodes) ≡ tree_splits fork_of nodes
      tree_splits-leaf is = ap (λ (o : Option Fork). cond (is_some o) (x ∷ tree_splits fork_of nodes) (tree_splits fork_of nodes)) is

      tree_splits-split : (f : Fork) → fork_of x ≡ Some f → tree_splits fork_of (x ∷ nodes) ≡ x ∷ tree_splits fork_of nodes
      tree_splits-split f is = ap (λ (o : Option Fork). cond (is_some o) (x ∷ tree_splits fork_of nodes) (tree_splits fork_of nodes)) is

  -- each split has its sides
  pub length-branches_of : (nodes : List X) (pending : List (List Side)) → AreTrees fork_of (length pending) nodes → length (branches_of fork_of pending nodes) ≡ length (tree_splits fork_of nodes)
  length-branches_of nodes pending trees =
      sym (length-map (branches_of fork_of pending nodes) (λ (b : Branch X). b.node)) ∙ ap length (map-branches_of nodes pending trees)

  -- where leaf number k is replaced by a tree, the splits of that tree stand where the leaf did,
  -- below the sides of the leaf, and the others stay
  pub branches_of-with_leaf : (change : X → List X) → ((x : X) → fork_of x ≡ None → IsTree fork_of (change x)) → (nodes : List X) (pending : List (List Side)) (k : ℕ) (l : Leaf X) →
      slice_get (leaves_of fork_of pending nodes) k ≡ Some l →
      branches_of fork_of pending (with_leaf fork_of change k nodes)
      ≡ take (splits_before fork_of k nodes) (branches_of fork_of pending nodes) ++ (branches_of fork_of (l.sides ∷ []) (change l.node) ++ drop (splits_before fork_of k nodes) (branches_of fork_of pending nodes))
  branches_of-with_leaf change trees [] pending k l is = absurd (none-some l is)
  branches_of-with_leaf change trees (x ∷ nodes) [] k l is = absurd (none-some l is)
  branches_of-with_leaf change trees (x ∷ nodes) (sides ∷ pending) zero l is =
      ⊎_elim
      (λ (leaf : fork_of x ≡ None).
      let here : (record { node = x; sides = sides }) ≡ l = same_Some (record { node = x; sides = sides }) l (ap (λ (ls : List (Leaf X)). slice_get ls 0) (sym (leaves_of-leaf sides pending x nodes leaf)) ∙ is) in
      ap (λ (ns : List X). branches_of fork_of (sides ∷ pending) ns) (ap (first_at change x nodes) leaf)
      ∙ branches_of-append (change x) nodes (sides ∷ []) pending (trees x leaf)
      ∙ ap (λ (m : Leaf X). branches_of fork_of (m.sides ∷ []) (change m.node) ++ branches_of fork_of pending nodes) here
      ∙ sym (spliced (sides ∷ pending) zero (x ∷ nodes) l 0 (branches_of fork_of pending nodes) (ap (λ (o : Option Fork). elim o as (λ p. ℕ) [ None ↦ 0 | Some f ↦ suc (splits_before fork_of zero nodes) ]) leaf) (branches_of-leaf sides pending x nodes leaf)))
      (λ (s : (f : Fork) × (fork_of x ≡ Some f)).
      let one : Branch X = record { node = x; sides = sides } in
      let deeper : List (List Side) = pending_below sides pending s.0 in
      let again = branches_of-with_leaf change trees nodes deeper zero l (ap (λ (ls : List (Leaf X)). slice_get ls 0) (sym (leaves_of-split sides pending x nodes s.0 s.1)) ∙ is) in
      ap (λ (ns : List X). branches_of fork_of (sides ∷ pending) ns) (ap (first_at change x nodes) s.1)
      ∙ branches_of-split sides pending x (with_leaf fork_of change zero nodes) s.0 s.1
      ∙ ap (λ (bs : List (Branch X)). one ∷ bs) again
      ∙ sym (spliced (sides ∷ pending) zero (x ∷ nodes) l (suc (splits_before fork_of zero nodes)) (one ∷ branches_of fork_of deeper nodes)
      (ap (λ (o : Option Fork). elim o as (λ p. ℕ) [ None ↦ 0 | Some f ↦ suc (splits_before fork_of zero nodes) ]) s.1) (branches_of-split sides pending x nodes s.0 s.1)))
      (fork_cases (fork_of x))
    where
      spliced : (at : List (List Side)) (j : ℕ) (ns : List X) (m : Leaf X) (n : ℕ) (bs : List (Branch X)) → splits_before fork_of j ns ≡ n → branches_of fork_of at ns ≡ bs →
          take (splits_before fork_of j ns) (branches_of fork_of at ns) ++ (branches_of fork_of (m.sides ∷ []) (change m.node) ++ drop (splits_before fork_of j ns) (branches_of fork_of at ns))
          ≡ take n bs ++ (branches_of fork_of (m.sides ∷ []) (change m.node) ++ drop n bs)
      spliced at j ns m n bs count are =
          ap (λ (i : ℕ). take i (branches_of fork_of at ns) ++ (branches_of fork_of (m.sides ∷ []) (change m.node) ++ drop i (branches_of fork_of at ns))) count
          ∙ ap (λ (cs : List (Branch X)). take n cs ++ (branches_of fork_of (m.sides ∷ []) (change m.node) ++ drop n cs)) are
  branches_of-with_leaf change trees (x ∷ nodes) (sides ∷ pending) (suc k) l is =
      ⊎_elim
      (λ (leaf : fork_of x ≡ None).
      let again = branches_of-with_leaf change trees nodes pending k l (ap (λ (ls : List (Leaf X)). slice_get ls (suc k)) (sym (leaves_of-leaf sides pending x nodes leaf)) ∙ is) in
      ap (λ (ns : List X). branches_of fork_of (sides ∷ pending) ns) (ap (later_at change k x nodes) leaf)
      ∙ branches_of-leaf sides pending x (with_leaf fork_of change k nodes) leaf
      ∙ again
      ∙ sym (spliced (splits_before fork_of k nodes) (branches_of fork_of pending nodes) (ap counted leaf) (branches_of-leaf sides pending x nodes leaf)))
      (λ (s : (f : Fork) × (fork_of x ≡ Some f)).
      let one : Branch X = record { node = x; sides = sides } in
      let deeper : List (List Side) = pending_below sides pending s.0 in
      let again = branches_of-with_leaf change trees nodes deeper (suc k) l (ap (λ (ls : List (Leaf X)). slice_get ls (suc k)) (sym (leaves_of-split sides pending x nodes s.0 s.1)) ∙ is) in
      ap (λ (ns : List X). branches_of fork_of (sides ∷ pending) ns) (ap (later_at change k x nodes) s.1)
      ∙ branches_of-split sides pending x (with_leaf fork_of change (suc k) nodes) s.0 s.1
      ∙ ap (λ (bs : List (Branch X)). one ∷ bs) again
      ∙ sym (spliced (suc (splits_before fork_of (suc k) nodes)) (one ∷ branches_of fork_of deeper nodes) (ap counted s.1) (branches_of-split sides pending x nodes s.0 s.1)))
      (fork_cases (fork_of x))
    where
      counted : Option Fork → ℕ
      counted o = elim o as (λ p. ℕ) [ None ↦ splits_before fork_of k nodes | Some f ↦ suc (splits_before fork_of (suc k) nodes) ]

      spliced : (n : ℕ) (bs : List (Branch X)) → splits_before fork_of (suc k) (x ∷ nodes) ≡ n → branches_of fork_of (sides ∷ pending) (x ∷ nodes) ≡ bs →
          take (splits_before fork_of (suc k) (x ∷ nodes)) (branches_of fork_of (sides ∷ pending) (x ∷ nodes))
          ++ (branches_of fork_of (l.sides ∷ []) (change l.node) ++ drop (splits_before fork_of (suc k) (x ∷ nodes)) (branches_of fork_of (sides ∷ pending) (x ∷ nodes)))
          ≡ take n bs ++ (branches_of fork_of (l.sides ∷ []) (change l.node) ++ drop n bs)
      spliced n bs count are =
          ap (λ (i : ℕ). take i (branches_of fork_of (sides ∷ pending) (x ∷ nodes)) ++ (branches_of fork_of (l.sides ∷ []) (change l.node) ++ drop i (branches_of fork_of (sides ∷ pending) (x ∷ nodes)))) count
          ∙ ap (λ (cs : List (Branch X)). take n cs ++ (branches_of fork_of (l.sides ∷ []) (change l.node) ++ drop n cs)) are

  -- where leaf number k stays a leaf, the splits keep their nodes and sides
  pub branches_of-kept_leaf : (change : X → X) → ((x : X) → fork_of x ≡ None → fork_of (change x) ≡ None) → (nodes : List X) (pending : List (List Side)) (k : ℕ) (l : Leaf X) →
      slice_get (leaves_of fork_of pending nodes) k ≡ Some l → fork_of l.node ≡ None →
      branches_of fork_of pending (with_leaf fork_of (λ x. change x ∷ []) k nodes) ≡ branches_of fork_of pending nodes
  branches_of-kept_leaf change keeps nodes pending k l is leaf =
      branches_of-with_leaf (λ x. change x ∷ []) (λ x own. subst (trees_at 0 []) (sym (keeps x own)) refl) nodes pending k l is
      ∙ ap (λ (bs : List (Branch X)). take (splits_before fork_of k nodes) (branches_of fork_of pending nodes) ++ (bs ++ drop (splits_before fork_of k nodes) (branches_of fork_of pending nodes)))
      (branches_of-leaf l.sides [] (change l.node) [] (keeps l.node leaf))
      ∙ take-append-drop (splits_before fork_of k nodes) (branches_of fork_of pending nodes)

  -- where it becomes a split with two leaves, that split has the sides of the leaf, and stands
  -- among the splits where the leaf stood
  pub branches_of-divided_leaf : (change one two : X → X) (f : Fork) → ((x : X) → fork_of x ≡ None → (fork_of (change x) ≡ Some f) × (fork_of (one x) ≡ None) × (fork_of (two x) ≡ None)) →
      (nodes : List X) (pending : List (List Side)) (k : ℕ) (l : Leaf X) → slice_get (leaves_of fork_of pending nodes) k ≡ Some l → fork_of l.node ≡ None →
      branches_of fork_of pending (with_leaf fork_of (λ x. change x ∷ one x ∷ two x ∷ []) k nodes)
      ≡ insert (branches_of fork_of pending nodes) (splits_before fork_of k nodes) (record { node = change l.node; sides = l.sides })
  branches_of-divided_leaf change one two f divides nodes pending k l is leaf =
      branches_of-with_leaf (λ x. change x ∷ one x ∷ two x ∷ []) divided nodes pending k l is
      ∙ ap (λ (bs : List (Branch X)). take (splits_before fork_of k nodes) (branches_of fork_of pending nodes) ++ (bs ++ drop (splits_before fork_of k nodes) (branches_of fork_of pending nodes))) alone
    where
      divided : (x : X) → fork_of x ≡ None → IsTree fork_of (change x ∷ one x ∷ two x ∷ [])
      divided x own =
          let d = divides x own in
          subst (trees_at 0 (one x ∷ two x ∷ [])) (sym d.0) (subst (trees_at 1 (two x ∷ [])) (sym d.1) (subst (trees_at 0 []) (sym d.2) refl))

      alone : branches_of fork_of (l.sides ∷ []) (change l.node ∷ one l.node ∷ two l.node ∷ []) ≡ (record { node = change l.node; sides = l.sides }) ∷ []
      alone =
          let d = divides l.node leaf in
          branches_of-split l.sides [] (change l.node) (one l.node ∷ two l.node ∷ []) f d.0
          ∙ ap (λ (bs : List (Branch X)). (record { node = change l.node; sides = l.sides }) ∷ bs)
          (branches_of-leaf (l.sides ++ (first f ∷ [])) ((l.sides ++ (second f ∷ [])) ∷ []) (one l.node) (two l.node ∷ []) d.1 ∙ branches_of-leaf (l.sides ++ (second f ∷ [])) [] (two l.node) [] d.2)

  -- each leaf is one
  pub fork_of-leaf : (nodes : List X) (pending : List (List Side)) (k : ℕ) (l : Leaf X) → slice_get (leaves_of fork_of pending nodes) k ≡ Some l → fork_of l.node ≡ None
  fork_of-leaf [] pending k l is = absurd (none-some l is)
  fork_of-leaf (x ∷ nodes) [] k l is = absurd (none-some l is)
  fork_of-leaf (x ∷ nodes) (sides ∷ pending) k l is =
      ⊎_elim
      (λ (leaf : fork_of x ≡ None). by_number k leaf (λ j h. fork_of-leaf nodes pending j l h) (ap (λ (ls : List (Leaf X)). slice_get ls k) (sym (leaves_of-leaf sides pending x nodes leaf)) ∙ is))
      (λ (s : (f : Fork) × (fork_of x ≡ Some f)). fork_of-leaf nodes (pending_below sides pending s.0) k l (ap (λ (ls : List (Leaf X)). slice_get ls k) (sym (leaves_of-split sides pending x nodes s.0 s.1)) ∙ is))
      (fork_cases (fork_of x))
    where
      by_number : (j : ℕ) → fork_of x ≡ None → ((i : ℕ) → slice_get (leaves_of fork_of pending nodes) i ≡ Some l → fork_of l.node ≡ None) →
          slice_get ((record { node = x; sides = sides }) ∷ leaves_of fork_of pending nodes) j ≡ Some l → fork_of l.node ≡ None
      by_number zero leaf again h = subst (λ (m : Leaf X). fork_of m.node ≡ None) (same_Some (record { node = x; sides = sides }) l h) leaf
      by_number (suc j) leaf again h = again j h

module _ {T : Type 0} where
  -- a leaf of a tree that is divided: its new split comes among the others, which stay, with the
  -- sides of the leaf
  pub tree_branches-divide_leaf : (f : Fork) (one two : Node T) → fork_of_node one ≡ None → fork_of_node two ≡ None → (nodes : List (Node T)) (k : ℕ) (l : Leaf (Node T)) → leaf_at nodes k ≡ Some l →
      tree_branches fork_of_node (with_leaf fork_of_node (divide_leaf f one two) k nodes)
      ≡ insert (tree_branches fork_of_node nodes) (splits_before fork_of_node k nodes) (record { node = record { payload = l.node.payload; role = Divided f }; sides = l.sides })
  tree_branches-divide_leaf f one two first_leaf second_leaf nodes k l is =
      branches_of-divided_leaf fork_of_node (λ n. record { payload = n.payload; role = Divided f }) (λ n. one) (λ n. two) f (λ n own. (refl, first_leaf, second_leaf)) nodes ([] ∷ []) k l is
      (fork_of-leaf fork_of_node nodes ([] ∷ []) k l is)

  -- what holds of each split with its sides, and of the new one, holds of each after the leaf is
  -- divided
  pub All-divide_leaf : (P : Branch (Node T) → Type 0) (f : Fork) (one two : Node T) → fork_of_node one ≡ None → fork_of_node two ≡ None → (nodes : List (Node T)) (k : ℕ) (l : Leaf (Node T)) → leaf_at nodes k ≡ Some l →
      All P (tree_branches fork_of_node nodes) → P (record { node = record { payload = l.node.payload; role = Divided f }; sides = l.sides }) →
      All P (tree_branches fork_of_node (with_leaf fork_of_node (divide_leaf f one two) k nodes))
  All-divide_leaf P f one two first_leaf second_leaf nodes k l is all new =
      let bs : List (Branch (Node T)) = tree_branches fork_of_node nodes in
      let n : ℕ = splits_before fork_of_node k nodes in
      subst (All P) (sym (tree_branches-divide_leaf f one two first_leaf second_leaf nodes k l is))
      (All-append P (take n bs) ((record { node = record { payload = l.node.payload; role = Divided f }; sides = l.sides }) ∷ drop n bs) (All-take P n bs all)
      (All-cons P (record { node = record { payload = l.node.payload; role = Divided f }; sides = l.sides }) (drop n bs) new (All-drop P n bs all)))
