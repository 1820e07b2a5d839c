-- The number of the leaf that stands at a place of a tree.
use Rattle.std.proofs.Common.{◌≡◌, ℕ, zero, suc, ◌+◌, List, [], ◌∷◌, length, refl, sym, ap, ◌∙◌, subst, arith, ⊎_elim}
use Rattle.std.specs.Prelude.{Option, Some, None, IsSomeAnd, slice_get}
use Rattle.std.proofs.lemmas.Option.{none-some}
use Rattle.fp_tree.specs.declared.sides.Side.{Side}
use Rattle.fp_tree.specs.Sides.{Fork}
use Rattle.fp_tree.specs.Trees.{AreTrees, IsTree, Leaf, leaves_of, tree_leaves}
use Rattle.fp_tree.proofs.Branches.{fork_cases, leaves_of-leaf, leaves_of-split, pending_below, trees_at}

module _ {X : Type 0} (fork_of : X → Option Fork) where
  -- one more where a node is a leaf
  abbrev with_leaf_at : Option Fork → ℕ → ℕ
  with_leaf_at o n = elim o as (λ o. ℕ) [ None ↦ suc n | Some f ↦ n ]

  -- how many leaves stand before a place
  abbrev pub leaves_before : ℕ → List X → ℕ
  leaves_before zero nodes = 0
  leaves_before (suc n) [] = 0
  leaves_before (suc n) (x ∷ nodes) = elim (fork_of x) as (λ o. ℕ) [ None ↦ suc (leaves_before n nodes) | Some f ↦ leaves_before n nodes ]

  -- a leaf at the place is one more
  leaves_before-leaf : (n : ℕ) (nodes : List X) (x : X) → slice_get nodes n ≡ Some x → fork_of x ≡ None → leaves_before (suc n) nodes ≡ suc (leaves_before n nodes)
  leaves_before-leaf n [] x at leaf = absurd (none-some x at)
  leaves_before-leaf zero (y ∷ nodes) x at leaf =
      let own : fork_of y ≡ None = subst (λ (o : Option X). elim o as (λ o. Type 0) [ None ↦ ⊥ | Some z ↦ fork_of z ≡ None ]) (sym at) leaf in
      ap (λ (o : Option Fork). with_leaf_at o 0) own
  leaves_before-leaf (suc n) (y ∷ nodes) x at leaf =
      ⊎_elim
      (λ (none : fork_of y ≡ None).
      ap (λ (o : Option Fork). with_leaf_at o (leaves_before (suc n) nodes)) none ∙ ap suc (leaves_before-leaf n nodes x at leaf)
      ∙ sym (ap (λ (o : Option Fork). suc (with_leaf_at o (leaves_before n nodes))) none))
      (λ (some : (f : Fork) × (fork_of y ≡ Some f)).
      ap (λ (o : Option Fork). with_leaf_at o (leaves_before (suc n) nodes)) some.1 ∙ leaves_before-leaf n nodes x at leaf
      ∙ sym (ap (λ (o : Option Fork). suc (with_leaf_at o (leaves_before n nodes))) some.1))
      (fork_cases (fork_of y))

  -- a split is none
  leaves_before-split : (n : ℕ) (nodes : List X) (x : X) (f : Fork) → slice_get nodes n ≡ Some x → fork_of x ≡ Some f → leaves_before (suc n) nodes ≡ leaves_before n nodes
  leaves_before-split n [] x f at split = absurd (none-some x at)
  leaves_before-split zero (y ∷ nodes) x f at split =
      let own : fork_of y ≡ Some f = subst (λ (o : Option X). elim o as (λ o. Type 0) [ None ↦ ⊥ | Some z ↦ fork_of z ≡ Some f ]) (sym at) split in
      ap (λ (o : Option Fork). with_leaf_at o 0) own
  leaves_before-split (suc n) (y ∷ nodes) x f at split =
      ⊎_elim
      (λ (none : fork_of y ≡ None).
      ap (λ (o : Option Fork). with_leaf_at o (leaves_before (suc n) nodes)) none ∙ ap suc (leaves_before-split n nodes x f at split)
      ∙ sym (ap (λ (o : Option Fork). with_leaf_at o (leaves_before n nodes)) none))
      (λ (some : (g : Fork) × (fork_of y ≡ Some g)).
      ap (λ (o : Option Fork). with_leaf_at o (leaves_before (suc n) nodes)) some.1 ∙ leaves_before-split n nodes x f at split
      ∙ sym (ap (λ (o : Option Fork). with_leaf_at o (leaves_before n nodes)) some.1))
      (fork_cases (fork_of y))

  -- the same of the place after it
  pub after-leaf : (n : ℕ) (nodes : List X) (x : X) → slice_get nodes n ≡ Some x → fork_of x ≡ None → leaves_before (n + 1) nodes ≡ leaves_before n nodes + 1
  after-leaf n nodes x at leaf =
      let place : suc n ≡ n + 1 = omega arith in
      let more : suc (leaves_before n nodes) ≡ leaves_before n nodes + 1 = omega arith in
      subst (λ (k : ℕ). leaves_before k nodes ≡ leaves_before n nodes + 1) place (leaves_before-leaf n nodes x at leaf ∙ more)

  pub after-split : (n : ℕ) (nodes : List X) (x : X) (f : Fork) → slice_get nodes n ≡ Some x → fork_of x ≡ Some f → leaves_before (n + 1) nodes ≡ leaves_before n nodes
  after-split n nodes x f at split =
      let place : suc n ≡ n + 1 = omega arith in
      subst (λ (k : ℕ). leaves_before k nodes ≡ leaves_before n nodes) place (leaves_before-split n nodes x f at split)

  -- a leaf that is at a place has the number of leaves before it
  abbrev IsLeafAt : Option (Leaf X) → X → Type 0
  IsLeafAt o x = IsSomeAnd o (λ (l : Leaf X). l.node ≡ x)

  leaf-before : (n : ℕ) (nodes : List X) (pending : List (List Side)) (x : X) → AreTrees fork_of (length pending) nodes → slice_get nodes n ≡ Some x → fork_of x ≡ None →
      IsLeafAt (slice_get (leaves_of fork_of pending nodes) (leaves_before n nodes)) x
  leaf-before n [] pending x trees at leaf = absurd (none-some x at)
  leaf-before n (y ∷ nodes) [] x trees at leaf = absurd trees
  leaf-before zero (y ∷ nodes) (sides ∷ pending) x trees at leaf =
      let own : fork_of y ≡ None = subst (λ (o : Option X). elim o as (λ o. Type 0) [ None ↦ ⊥ | Some z ↦ fork_of z ≡ None ]) (sym at) leaf in
      subst (λ (ls : List (Leaf X)). IsLeafAt (slice_get ls 0) x) (sym (leaves_of-leaf fork_of sides pending y nodes own))
      (subst (λ (o : Option X). elim o as (λ o. Type 0) [ None ↦ ⊥ | Some z ↦ z ≡ x ]) (sym at) refl)
  leaf-before (suc n) (y ∷ nodes) (sides ∷ pending) x trees at leaf =
      ⊎_elim
      (λ (none : fork_of y ≡ None).
      subst (λ (k : ℕ). IsLeafAt (slice_get (leaves_of fork_of (sides ∷ pending) (y ∷ nodes)) k) x) (sym (ap (λ (o : Option Fork). with_leaf_at o (leaves_before n nodes)) none))
      (subst (λ (ls : List (Leaf X)). IsLeafAt (slice_get ls (suc (leaves_before n nodes))) x) (sym (leaves_of-leaf fork_of sides pending y nodes none))
      (leaf-before n nodes pending x (subst (trees_at fork_of (length pending) nodes) none trees) at leaf)))
      (λ (some : (f : Fork) × (fork_of y ≡ Some f)).
      subst (λ (k : ℕ). IsLeafAt (slice_get (leaves_of fork_of (sides ∷ pending) (y ∷ nodes)) k) x) (sym (ap (λ (o : Option Fork). with_leaf_at o (leaves_before n nodes)) some.1))
      (subst (λ (ls : List (Leaf X)). IsLeafAt (slice_get ls (leaves_before n nodes)) x) (sym (leaves_of-split fork_of sides pending y nodes some.0 some.1))
      (leaf-before n nodes (pending_below sides pending some.0) x (subst (trees_at fork_of (length pending) nodes) some.1 trees) at leaf)))
      (fork_cases (fork_of y))

  -- the leaf at a place of a tree, by its number
  pub leaf-at_place : (n : ℕ) (nodes : List X) (x : X) → IsTree fork_of nodes → slice_get nodes n ≡ Some x → fork_of x ≡ None →
      (l : Leaf X) × (slice_get (tree_leaves fork_of nodes) (leaves_before n nodes) ≡ Some l) × (l.node ≡ x)
  leaf-at_place n nodes x tree at leaf = parts (slice_get (tree_leaves fork_of nodes) (leaves_before n nodes)) (leaf-before n nodes ([] ∷ []) x tree at leaf)
    where
      parts : (o : Option (Leaf X)) → IsLeafAt o x → (l : Leaf X) × (o ≡ Some l) × (l.node ≡ x)
      parts None is = absurd is
      parts (Some l) is = (l, refl, is)
