-- Two changes of one leaf, one after the other: what was put in its place can be put back.
use Rattle.std.proofs.Common.{◌≡◌, ℕ, zero, suc, List, [], ◌∷◌, ⊎_elim, refl, sym, ap, ◌∙◌}
use Rattle.std.specs.Prelude.{Option, Some, None, slice_get}
use Rattle.std.proofs.lemmas.Option.{none-some, same_Some}
use Rattle.fp_tree.specs.declared.sides.Side.{Side}
use Rattle.fp_tree.specs.Sides.{Fork}
use Rattle.fp_tree.specs.Trees.{Leaf, leaves_of, with_leaf}
use Rattle.fp_tree.specs.Nodes.{Divided, Node, Role, Undivided, closed_of, fork_of as fork_of_node, leaf_at, put_leaf, value_of}
use Rattle.fp_tree.proofs.Branches.{first_at, fork_cases, fork_of-leaf, later_at, leaves_of-leaf, leaves_of-split, pending_below}

module _ {X : Type 0} (fork_of : X → Option Fork) where
  -- a second change of a leaf that stayed one is made on the first
  pub with_leaf-with_leaf : (change again : X → X) → ((x : X) → fork_of x ≡ None → fork_of (change x) ≡ None) → (nodes : List X) (k : ℕ) →
      with_leaf fork_of (λ x. again x ∷ []) k (with_leaf fork_of (λ x. change x ∷ []) k nodes) ≡ with_leaf fork_of (λ x. again (change x) ∷ []) k nodes
  with_leaf-with_leaf change again keeps [] k = refl
  with_leaf-with_leaf change again keeps (x ∷ nodes) zero =
      ⊎_elim
      (λ (leaf : fork_of x ≡ None).
      ap (with_leaf fork_of (λ y. again y ∷ []) zero) (ap (first_at fork_of (λ y. change y ∷ []) x nodes) leaf) ∙ ap (first_at fork_of (λ y. again y ∷ []) (change x) nodes) (keeps x leaf)
      ∙ sym (ap (first_at fork_of (λ y. again (change y) ∷ []) x nodes) leaf))
      (λ (s : (f : Fork) × (fork_of x ≡ Some f)).
      ap (with_leaf fork_of (λ y. again y ∷ []) zero) (ap (first_at fork_of (λ y. change y ∷ []) x nodes) s.1)
      ∙ ap (first_at fork_of (λ y. again y ∷ []) x (with_leaf fork_of (λ y. change y ∷ []) zero nodes)) s.1
      ∙ ap (λ (ns : List X). x ∷ ns) (with_leaf-with_leaf change again keeps nodes zero) ∙ sym (ap (first_at fork_of (λ y. again (change y) ∷ []) x nodes) s.1))
      (fork_cases (fork_of x))
  with_leaf-with_leaf change again keeps (x ∷ nodes) (suc k) =
      ⊎_elim
      (λ (leaf : fork_of x ≡ None).
      ap (with_leaf fork_of (λ y. again y ∷ []) (suc k)) (ap (later_at fork_of (λ y. change y ∷ []) k x nodes) leaf)
      ∙ ap (later_at fork_of (λ y. again y ∷ []) k x (with_leaf fork_of (λ y. change y ∷ []) k nodes)) leaf
      ∙ ap (λ (ns : List X). x ∷ ns) (with_leaf-with_leaf change again keeps nodes k) ∙ sym (ap (later_at fork_of (λ y. again (change y) ∷ []) k x nodes) leaf))
      (λ (s : (f : Fork) × (fork_of x ≡ Some f)).
      ap (with_leaf fork_of (λ y. again y ∷ []) (suc k)) (ap (later_at fork_of (λ y. change y ∷ []) k x nodes) s.1)
      ∙ ap (later_at fork_of (λ y. again y ∷ []) k x (with_leaf fork_of (λ y. change y ∷ []) (suc k) nodes)) s.1
      ∙ ap (λ (ns : List X). x ∷ ns) (with_leaf-with_leaf change again keeps nodes (suc k)) ∙ sym (ap (later_at fork_of (λ y. again (change y) ∷ []) k x nodes) s.1))
      (fork_cases (fork_of x))

  -- a change that leaves the node of leaf number k as it is leaves all nodes
  pub with_leaf_same : (change : X → X) (nodes : List X) (pending : List (List Side)) (k : ℕ) (l : Leaf X) → slice_get (leaves_of fork_of pending nodes) k ≡ Some l → change l.node ≡ l.node →
      with_leaf fork_of (λ x. change x ∷ []) k nodes ≡ nodes
  with_leaf_same change [] pending k l is same = absurd (none-some l is)
  with_leaf_same change (x ∷ nodes) [] k l is same = absurd (none-some l is)
  with_leaf_same change (x ∷ nodes) (sides ∷ pending) zero l is same =
      ⊎_elim
      (λ (leaf : fork_of x ≡ None).
      let here : (record { node = x; sides = sides }) ≡ l =
      same_Some (record { node = x; sides = sides }) l (ap (λ (ls : List (Leaf X)). slice_get ls 0) (sym (leaves_of-leaf fork_of sides pending x nodes leaf)) ∙ is) in
      let node : x ≡ l.node = ap (λ (m : Leaf X). m.node) here in
      ap (first_at fork_of (λ y. change y ∷ []) x nodes) leaf ∙ ap (λ (y : X). y ∷ nodes) (ap change node ∙ same ∙ sym node))
      (λ (s : (f : Fork) × (fork_of x ≡ Some f)).
      ap (first_at fork_of (λ y. change y ∷ []) x nodes) s.1
      ∙ ap (λ (ns : List X). x ∷ ns)
      (with_leaf_same change nodes (pending_below sides pending s.0) zero l (ap (λ (ls : List (Leaf X)). slice_get ls 0) (sym (leaves_of-split fork_of sides pending x nodes s.0 s.1)) ∙ is) same))
      (fork_cases (fork_of x))
  with_leaf_same change (x ∷ nodes) (sides ∷ pending) (suc k) l is same =
      ⊎_elim
      (λ (leaf : fork_of x ≡ None).
      ap (later_at fork_of (λ y. change y ∷ []) k x nodes) leaf
      ∙ ap (λ (ns : List X). x ∷ ns)
      (with_leaf_same change nodes pending k l (ap (λ (ls : List (Leaf X)). slice_get ls (suc k)) (sym (leaves_of-leaf fork_of sides pending x nodes leaf)) ∙ is) same))
      (λ (s : (f : Fork) × (fork_of x ≡ Some f)).
      ap (later_at fork_of (λ y. change y ∷ []) k x nodes) s.1
      ∙ ap (λ (ns : List X). x ∷ ns)
      (with_leaf_same change nodes (pending_below sides pending s.0) (suc k) l (ap (λ (ls : List (Leaf X)). slice_get ls (suc k)) (sym (leaves_of-split fork_of sides pending x nodes s.0 s.1)) ∙ is) same))
      (fork_cases (fork_of x))

module _ {T : Type 0} where
  -- a leaf with its own payload and value is itself
  leaf_itself : (payload : T) (role : Role) (n : Node T) → (record { payload = payload; role = role }) ≡ n → fork_of_node n ≡ None →
      (record { payload = payload; role = Undivided (value_of (record { payload = payload; role = role })) (closed_of (record { payload = payload; role = role })) }) ≡ n
  leaf_itself payload (Divided f) n is leaf = absurd (none-some f (sym (ap (λ (m : Node T). fork_of_node m) is ∙ leaf)))
  leaf_itself payload (Undivided value closed) n is leaf = is

  -- the payload and value that a leaf had, put back in place of others, give the tree as it was
  pub with_leaf-put_back : (nodes : List (Node T)) (k : ℕ) (l : Leaf (Node T)) (payload : T) (value : ℕ) → leaf_at nodes k ≡ Some l →
      with_leaf fork_of_node (put_leaf l.node.payload (value_of l.node)) k (with_leaf fork_of_node (put_leaf payload value) k nodes) ≡ nodes
  with_leaf-put_back nodes k l payload value is =
      with_leaf-with_leaf fork_of_node (λ n. record { payload = payload; role = Undivided value (closed_of n) }) (λ n. record { payload = l.node.payload; role = Undivided (value_of l.node) (closed_of n) })
      (λ n leaf. refl) nodes k
      ∙ with_leaf_same fork_of_node (λ n. record { payload = l.node.payload; role = Undivided (value_of l.node) (closed_of n) }) nodes ([] ∷ []) k l is
      (leaf_itself l.node.payload l.node.role l.node refl (fork_of-leaf fork_of_node nodes ([] ∷ []) k l is))
