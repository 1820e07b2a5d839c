-- What a change of one leaf makes of a tree's leaves and tails.
use Rattle.std.proofs.Common.{◌≡◌, ℕ, zero, suc, List, [], ◌∷◌, ◌++◌, length, refl, ap, ◌∙◌}
use Rattle.std.specs.Prelude.{Option, Some, None}
use Rattle.fp_tree.specs.declared.sides.Side.{Side}
use Rattle.fp_tree.specs.Sides.{Fork, first, second}
use Rattle.fp_tree.specs.Trees.{Leaf, leaves_of, AreTrees, IsTree, with_leaf, HaveTails}
use Rattle.fp_tree.proofs.Walks.{leaves_at, leaves_of-none}

-- the list with element number k replaced by what `change` makes of it
abbrev pub with_element : {X : Type 0} → (X → List X) → ℕ → List X → List X
with_element change k [] = []
with_element change zero (x ∷ xs) = change x ++ xs
with_element change (suc k) (x ∷ xs) = x ∷ with_element change k xs

module _ {X : Type 0} (fork_of : X → Option Fork) where
  -- the leaves of trees, and of others after them
  pub leaves_of-append : (nodes rest : List X) (pending later : List (List Side)) → AreTrees fork_of (length pending) nodes →
      leaves_of fork_of (pending ++ later) (nodes ++ rest) ≡ leaves_of fork_of pending nodes ++ leaves_of fork_of later rest
  leaves_of-append [] rest [] later trees = refl
  leaves_of-append [] rest (sides ∷ pending) later trees = absurd (cc trees)
  leaves_of-append (x ∷ nodes) rest [] later trees = absurd trees
  leaves_of-append (x ∷ nodes) rest (sides ∷ pending) later trees =
      by_node (fork_of x) (λ more. leaves_of-append nodes rest more later) trees
    where
      by_node : (o : Option Fork) →
          ((more : List (List Side)) → AreTrees fork_of (length more) nodes → leaves_of fork_of (more ++ later) (nodes ++ rest) ≡ leaves_of fork_of more nodes ++ leaves_of fork_of later rest) →
          elim o as (λ p. Type 0) [ None ↦ AreTrees fork_of (length pending) nodes | Some f ↦ AreTrees fork_of (suc (suc (length pending))) nodes ] →
          leaves_at fork_of sides (pending ++ later) x (nodes ++ rest) o ≡ leaves_at fork_of sides pending x nodes o ++ leaves_of fork_of later rest
      by_node None again here = ap (λ (leaves : List (Leaf X)). (record { node = x; sides = sides }) ∷ leaves) (again pending here)
      by_node (Some f) again here = again ((sides ++ (first f ∷ [])) ∷ (sides ++ (second f ∷ [])) ∷ pending) here

  -- the leaves where one is replaced by a tree
  pub leaves_of-with_leaf : (change : X → List X) → ((x : X) → fork_of x ≡ None → IsTree fork_of (change x)) → (nodes : List X) (pending : List (List Side)) (k : ℕ) →
      leaves_of fork_of pending (with_leaf fork_of change k nodes) ≡ with_element (λ l. leaves_of fork_of (l.sides ∷ []) (change l.node)) k (leaves_of fork_of pending nodes)
  leaves_of-with_leaf change trees [] pending k = refl
  leaves_of-with_leaf change trees (x ∷ nodes) [] k = leaves_of-none fork_of (with_leaf fork_of change k (x ∷ nodes))
  leaves_of-with_leaf change trees (x ∷ nodes) (sides ∷ pending) zero =
      by_node (fork_of x) refl (λ more. leaves_of-with_leaf change trees nodes more zero)
    where
      by_node : (o : Option Fork) → fork_of x ≡ o →
          ((more : List (List Side)) → leaves_of fork_of more (with_leaf fork_of change zero nodes) ≡ with_element (λ l. leaves_of fork_of (l.sides ∷ []) (change l.node)) zero (leaves_of fork_of more nodes)) →
          leaves_of fork_of (sides ∷ pending) (elim o as (λ p. List X) [ None ↦ change x ++ nodes | Some f ↦ x ∷ with_leaf fork_of change zero nodes ])
          ≡ with_element (λ l. leaves_of fork_of (l.sides ∷ []) (change l.node)) zero (leaves_at fork_of sides pending x nodes o)
      by_node None is again = leaves_of-append (change x) nodes (sides ∷ []) pending (trees x is)
      by_node (Some f) is again = ap (leaves_at fork_of sides pending x (with_leaf fork_of change zero nodes)) is ∙ again ((sides ++ (first f ∷ [])) ∷ (sides ++ (second f ∷ [])) ∷ pending)
  leaves_of-with_leaf change trees (x ∷ nodes) (sides ∷ pending) (suc k) =
      by_node (fork_of x) refl (λ more j. leaves_of-with_leaf change trees nodes more j)
    where
      by_node : (o : Option Fork) → fork_of x ≡ o →
          ((more : List (List Side)) (j : ℕ) → leaves_of fork_of more (with_leaf fork_of change j nodes) ≡ with_element (λ l. leaves_of fork_of (l.sides ∷ []) (change l.node)) j (leaves_of fork_of more nodes)) →
          leaves_of fork_of (sides ∷ pending) (elim o as (λ p. List X) [ None ↦ x ∷ with_leaf fork_of change k nodes | Some f ↦ x ∷ with_leaf fork_of change (suc k) nodes ])
          ≡ with_element (λ l. leaves_of fork_of (l.sides ∷ []) (change l.node)) (suc k) (leaves_at fork_of sides pending x nodes o)
      by_node None is again =
          ap (leaves_at fork_of sides pending x (with_leaf fork_of change k nodes)) is ∙ ap (λ (leaves : List (Leaf X)). (record { node = x; sides = sides }) ∷ leaves) (again pending k)
      by_node (Some f) is again = ap (leaves_at fork_of sides pending x (with_leaf fork_of change (suc k) nodes)) is ∙ again ((sides ++ (first f ∷ [])) ∷ (sides ++ (second f ∷ [])) ∷ pending) (suc k)

  -- the tails where a leaf is replaced by nodes that have theirs
  pub HaveTails-with_leaf : (tails : ℕ → ℕ) (change : X → List X) → ((x : X) → fork_of x ≡ None → HaveTails tails fork_of (change x)) → (nodes : List X) (k : ℕ) →
      HaveTails tails fork_of nodes → HaveTails tails fork_of (with_leaf fork_of change k nodes)
  HaveTails-with_leaf tails change told [] k have = tt
  HaveTails-with_leaf tails change told (x ∷ nodes) zero have = by_node (fork_of x) refl (HaveTails-with_leaf tails change told nodes zero have.1)
    where
      both : (xs ys : List X) → HaveTails tails fork_of xs → HaveTails tails fork_of ys → HaveTails tails fork_of (xs ++ ys)
      both [] ys p q = q
      both (z ∷ xs) ys p q = (p.0, both xs ys p.1 q)

      by_node : (o : Option Fork) → fork_of x ≡ o → HaveTails tails fork_of (with_leaf fork_of change zero nodes) →
          HaveTails tails fork_of (elim o as (λ p. List X) [ None ↦ change x ++ nodes | Some f ↦ x ∷ with_leaf fork_of change zero nodes ])
      by_node None is rest = both (change x) nodes (told x is) have.1
      by_node (Some f) is rest = (have.0, rest)
  HaveTails-with_leaf tails change told (x ∷ nodes) (suc k) have = by_node (fork_of x) (λ j. HaveTails-with_leaf tails change told nodes j have.1)
    where
      by_node : (o : Option Fork) → ((j : ℕ) → HaveTails tails fork_of (with_leaf fork_of change j nodes)) →
          HaveTails tails fork_of (elim o as (λ p. List X) [ None ↦ x ∷ with_leaf fork_of change k nodes | Some f ↦ x ∷ with_leaf fork_of change (suc k) nodes ])
      by_node None rest = (have.0, rest k)
      by_node (Some f) rest = (have.0, rest (suc k))
