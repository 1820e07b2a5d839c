-- Lines and notes of a tree, one after another.
use Rattle.std.proofs.Common.{◌≡◌, ℕ, ◌+◌, ◌<◌, List, [], ◌∷◌, ◌++◌, get_or, map, take, refl, sym, ap, ◌∙◌, subst}
use Rattle.std.specs.Prelude.{Option, Some, None, IsSomeAnd, slice_get, option_map}
use Rattle.std.proofs.lemmas.List.{map-append, take_more}
use Rattle.std.proofs.lemmas.Option.{none-some, get_or_from_slice_get, slice_get_within}
use Rattle.fp_tree.specs.declared.sides.Split.{Split}
use Rattle.fp_tree.specs.Nodes.{Node, fork_of, leaf_at, leaf_count, split_of}
use Rattle.fp_tree.specs.Sides.{Fork}
use Rattle.fp_tree.specs.Trees.{IsTree, Leaf}
use Rattle.fp_certificate_lines.specs.declared.certificates.Node.{Node as Line}
use Rattle.fp_certificate_lines.specs.declared.certificates.Node.TheVariants as line
use Rattle.fp_session.specs.declared.payloads.Payload.{Payload}
use Rattle.fp_session.specs.TreeLines.{line_of}
use Rattle.fp_session.proofs.Applied.{some-value}
use Rattle.fp_session.proofs.LeafNumbers.{after-leaf, after-split, leaf-at_place, leaves_before}

-- what a function makes of the elements so far, and of one more
pub map-take_more : {X Y : Type 0} (f : X → Y) (xs : List X) (n : ℕ) (x : X) (ys : List Y) (y : Y) → slice_get xs n ≡ Some x → ys ≡ map f (take n xs) → y ≡ f x →
    ys ++ (y ∷ []) ≡ map f (take (n + 1) xs)
map-take_more f xs n x ys y at before is =
    let more : take (n + 1) xs ≡ take n xs ++ (get_or xs n x ∷ []) = take_more xs n x (slice_get_within xs n x at) in
    let all : map f (take (n + 1) xs) ≡ map f (take n xs) ++ (f x ∷ []) =
    ap (map f) (more ∙ ap (λ z. take n xs ++ (z ∷ [])) (get_or_from_slice_get xs n x x at)) ∙ map-append f (take n xs) (x ∷ []) in
    ap (λ z. z ++ (y ∷ [])) before ∙ ap (λ z. map f (take n xs) ++ (z ∷ [])) is ∙ sym all

-- the fork of a node by its split
no-fork : (o : Option Fork) → option_map (λ (f : Fork). f.split) o ≡ None → o ≡ None
no-fork None none = refl
no-fork (Some f) none = absurd (none-some f.split (sym none))

some-fork : (o : Option Fork) (split : Split) → option_map (λ (f : Fork). f.split) o ≡ Some split → (f : Fork) × (o ≡ Some f)
some-fork None split some = absurd (none-some split some)
some-fork (Some f) split some = (f, refl)

-- the line of a node by its split
pub line-split : (n : Node Payload) (split : Split) → split_of n ≡ Some split → line.Branch split ≡ line_of n
line-split n split is = ap (λ (o : Option Split). elim o as (λ o. Line) [ None ↦ line.Leaf n.payload.valuation | Some s ↦ line.Branch s ]) (sym is)

pub line-leaf : (n : Node Payload) → split_of n ≡ None → line.Leaf n.payload.valuation ≡ line_of n
line-leaf n is = ap (λ (o : Option Split). elim o as (λ o. Line) [ None ↦ line.Leaf n.payload.valuation | Some s ↦ line.Branch s ]) (sym is)

-- a leaf that stands at a place of a tree, with the number of leaves before it
pub record IsLeafHere (nodes : List (Node Payload)) (node leaf : ℕ) : Type 0 where
  pub found : Leaf (Node Payload)
  pub at : leaf_at nodes leaf ≡ Some found
  pub place : slice_get nodes node ≡ Some found.node
  pub whole : split_of found.node ≡ None
  pub after : leaves_before fork_of (node + 1) nodes ≡ leaf + 1
  pub within : leaf < leaf_count nodes

pub leaf-here : (nodes : List (Node Payload)) (node leaf : ℕ) → IsTree fork_of nodes → leaf ≡ leaves_before fork_of node nodes → IsSomeAnd (slice_get nodes node) (λ (n : Node Payload). split_of n ≡ None) →
    IsLeafHere nodes node leaf
leaf-here nodes node leaf tree count here =
    let some = some-value (slice_get nodes node) (λ (n : Node Payload). split_of n ≡ None) here in
    let none : fork_of some.0 ≡ None = no-fork (fork_of some.0) some.2 in
    let it = leaf-at_place fork_of node nodes some.0 tree some.1 none in
    let at : leaf_at nodes leaf ≡ Some it.0 = ap (λ (k : ℕ). leaf_at nodes k) count ∙ it.1 in
    record {
      found = it.0;
      at = at;
      place = some.1 ∙ ap (λ (n : Node Payload). Some n) (sym it.2);
      whole = ap (λ (n : Node Payload). split_of n) it.2 ∙ some.2;
      after = after-leaf fork_of node nodes some.0 some.1 none ∙ ap (λ (k : ℕ). k + 1) (sym count);
      within = slice_get_within (Rattle.fp_tree.specs.Trees.tree_leaves fork_of nodes) leaf it.0 at;
    }

-- the line of the leaf, by the price that was read
pub leaf-line : (nodes : List (Node Payload)) (node leaf : ℕ) (payload : Payload) (ys : List Line) → IsLeafHere nodes node leaf →
    IsSomeAnd (leaf_at nodes leaf) (λ (l : Leaf (Node Payload)). l.node.payload ≡ payload) → ys ≡ map line_of (take node nodes) →
    ys ++ (line.Leaf payload.valuation ∷ []) ≡ map line_of (take (node + 1) nodes)
leaf-line nodes node leaf payload ys is read before =
    let own : is.found.node.payload ≡ payload = subst (λ (o : Option (Leaf (Node Payload))). IsSomeAnd o (λ (l : Leaf (Node Payload)). l.node.payload ≡ payload)) is.at read in
    map-take_more line_of nodes node is.found.node ys (line.Leaf payload.valuation) is.place before (ap (λ (x : Payload). line.Leaf x.valuation) (sym own) ∙ line-leaf is.found.node is.whole)

-- the line of a split, and the leaves before the place after it
pub split-line : (nodes : List (Node Payload)) (node : ℕ) (split : Split) (ys : List Line) → IsSomeAnd (slice_get nodes node) (λ (n : Node Payload). split_of n ≡ Some split) → ys ≡ map line_of (take node nodes) →
    (ys ++ (line.Branch split ∷ []) ≡ map line_of (take (node + 1) nodes)) × (leaves_before fork_of (node + 1) nodes ≡ leaves_before fork_of node nodes)
split-line nodes node split ys here before =
    let some = some-value (slice_get nodes node) (λ (n : Node Payload). split_of n ≡ Some split) here in
    let fork = some-fork (fork_of some.0) split some.2 in
    (map-take_more line_of nodes node some.0 ys (line.Branch split) some.1 before (line-split some.0 split some.2), after-split fork_of node nodes some.0 fork.0 some.1 fork.1)
