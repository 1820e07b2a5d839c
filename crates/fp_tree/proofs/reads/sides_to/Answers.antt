use Rattle.std.proofs.Common.{◌≡◌, ℕ, suc, ◌+◌, ◌-◌, ◌<◌, Bool, false, cond, List, [], ◌∷◌, ◌++◌, length, drop, get_or, refl, sym, ap, ◌∙◌, subst, arith}
use Rattle.std.specs.Prelude.{Some, slice_get}
use Rattle.std.proofs.lemmas.List.{drop_more, drop_all}
use Rattle.std.proofs.lemmas.Option.{slice_get-get_or, none-some}
use Rattle.fp_tree.specs.declared.sides.Split.{Split}
use Rattle.fp_tree.specs.declared.sides.Split.TheVariants.{ByArc}
use Rattle.fp_tree.specs.declared.ways.Step.{Step}
use Rattle.fp_tree.specs.declared.layout.Kind.{Kind}
use Rattle.fp_tree.specs.declared.layout.Kind.TheVariants.{Divided, Leaf as LeafKind}
use Rattle.fp_tree.specs.Trees.{Leaf, tree_leaves}
use Rattle.fp_tree.specs.Ways.{way_sides, pending_on, leaves_on}
use Rattle.fp_tree.specs.Layout.{fork_of_kind}
use Rattle.fp_tree.proofs.Walks.{leaves_on-split, found-leaf}
use Rattle.fp_tree.proofs.reads.sides_to.Goals as goal
use Rattle.fp_tree.proofs.reads.sides_to.Goals.{in-Divided+in_ok-descend-in-Divided, in-Leaf+else-left-eq0}

-- the leaf that is looked for has that number among those that are left at a place of the preorder
abbrev IsLeft : List Step → List Kind → ℕ → ℕ → Leaf Kind → Type 0
IsLeft way kinds i left leaf = slice_get (leaves_on fork_of_kind way (drop i kinds)) left ≡ Some leaf

here : (kinds : List Kind) (i : ℕ) (d kind : Kind) → i < length kinds → get_or kinds i d ≡ kind → drop i kinds ≡ kind ∷ drop (i + 1) kinds
here kinds i d kind h is = drop_more kinds i d h ∙ ap (λ (k : Kind). k ∷ drop (i + 1) kinds) is

at_split : (way new : List Step) (kinds : List Kind) (i left : ℕ) (d : Kind) (split : Split) (tail : ℕ) (leaf : Leaf Kind) → i < length kinds → get_or kinds i d ≡ Divided split tail →
    new ≡ way ++ (record { split = split; tail = tail; later = false }) ∷ [] → IsLeft way kinds i left leaf → IsLeft new kinds (i + 1) left leaf
at_split way new kinds i left d split tail leaf h is goes found =
    ap (λ (w : List Step). slice_get (leaves_on fork_of_kind w (drop (i + 1) kinds)) left) goes
    ∙ sym (ap (λ (leaves : List (Leaf Kind)). slice_get leaves left)
    (ap (λ (rest : List Kind). leaves_on fork_of_kind way rest) (here kinds i d (Divided split tail) h is) ∙ leaves_on-split fork_of_kind way (Divided split tail) (drop (i + 1) kinds) (record { split = split; tail = tail }) refl))
    ∙ found

at_leaf : (way new : List Step) (more : Bool) (kinds : List Kind) (i left : ℕ) (d : Kind) (leaf : Leaf Kind) → i < length kinds → get_or kinds i d ≡ LeafKind →
    pending_on way ≡ cond more (way_sides new ∷ pending_on new) [] → IsLeft way kinds i (suc left) leaf → IsLeft new kinds (i + 1) left leaf
at_leaf way new more kinds i left d leaf h is goes found =
    found-leaf fork_of_kind way new more LeafKind (drop (i + 1) kinds) left leaf refl goes
    (sym (ap (λ (rest : List Kind). slice_get (leaves_on fork_of_kind way rest) (suc left)) (here kinds i d LeafKind h is)) ∙ found)

-- a leaf that no leaf is
abbrev no_leaf : Leaf Kind
no_leaf = record { node = LeafKind; sides = [] }

-- the leaf with a number
there : (kinds : List Kind) (leaf : ℕ) → leaf < length (tree_leaves fork_of_kind kinds) → slice_get (tree_leaves fork_of_kind kinds) leaf ≡ Some (get_or (tree_leaves fork_of_kind kinds) leaf no_leaf)
there kinds leaf h = slice_get-get_or (tree_leaves fork_of_kind kinds) leaf no_leaf h

pub loop-kind-preserved : goal.loop-kind-preserved
loop-kind-preserved c =
    let kinds : List Kind = c.args.kinds.now in
    let none : Kind = Divided (ByArc 0 0) 0 in
    let is : slice_get (tree_leaves fork_of_kind kinds) c.args.leaf ≡ Some (get_or (tree_leaves fork_of_kind kinds) c.args.leaf no_leaf) = there kinds c.args.leaf c.requires in
    elim c.match-kind.branch [
      | in-Divided+in_ok-descend-in-Divided w ↦
          ap (λ (n : ℕ). slice_get (leaves_on fork_of_kind c.match-kind.way' (drop (c.loop-kind.kind-index + 1) kinds)) n) w.left-is
          ∙ at_split c.loop-kind.way c.match-kind.way' kinds c.loop-kind.kind-index c.loop-kind.left none w.in-Divided.split w.in-Divided.tail _ (omega arith) w.in-Divided.is
          (w.way'-is ∙ w.in_ok-descend-in-Divided.ensures.ok) (c.loop-kind.invariant ∙ is)
          ∙ sym is
      | in-Leaf+else-left-eq0 w ↦
          let before : c.loop-kind.left ≡ suc (c.loop-kind.left - 1) = omega (arith, w.if-left-eq0.false) in
          ap (λ (n : ℕ). slice_get (leaves_on fork_of_kind c.match-kind.way' (drop (c.loop-kind.kind-index + 1) kinds)) n) w.left-is
          ∙ at_leaf c.loop-kind.way c.match-kind.way' w.advance.result kinds c.loop-kind.kind-index (c.loop-kind.left - 1) none _ (omega arith) w.in-Leaf.is
          (w.advance.ensures.pending ∙ ap (λ (way : List Step). cond w.advance.result (way_sides way ∷ pending_on way) []) (sym w.way'-is))
          (subst (λ (n : ℕ). IsLeft c.loop-kind.way kinds c.loop-kind.kind-index n (get_or (tree_leaves fork_of_kind kinds) c.args.leaf no_leaf)) before (c.loop-kind.invariant ∙ is))
          ∙ sym is
    ]

pub unreachable-requires : goal.unreachable-requires
unreachable-requires c =
    let kinds : List Kind = c.args.kinds.now in
    let done : drop c.loop-kind.kind-index kinds ≡ [] = drop_all c.loop-kind.kind-index kinds c.loop-kind-test.false in
    none-some _ (sym (ap (λ (rest : List Kind). slice_get (leaves_on fork_of_kind c.loop-kind.way rest) c.loop-kind.left) done) ∙ c.loop-kind.invariant ∙ there kinds c.args.leaf c.requires)
