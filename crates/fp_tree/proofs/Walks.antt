-- A walk through the nodes of a tree in preorder, with the way to the node that comes next.
use Rattle.std.proofs.Common.{◌≡◌, ℕ, suc, Bool, true, false, cond, List, [], ◌∷◌, ◌++◌, refl, sym, ap, ◌∙◌}
use Rattle.std.specs.Prelude.{Option, Some, None, slice_get}
use Rattle.std.proofs.lemmas.Option.{none-some}
use Rattle.fp_tree.specs.declared.sides.Side.{Side}
use Rattle.fp_tree.specs.declared.ways.Step.{Step}
use Rattle.fp_tree.specs.Sides.{Fork, first, second}
use Rattle.fp_tree.specs.Trees.{Leaf, leaves_of}
use Rattle.fp_tree.specs.Ways.{way_sides, pending_on, leaves_on}
use Rattle.fp_tree.proofs.Steps.{way_sides-append, pending-by_first}

module _ {X : Type 0} (fork_of : X → Option Fork) where
  -- the leaves from a node on, by its fork
  abbrev pub leaves_at : List Side → List (List Side) → X → List X → Option Fork → List (Leaf X)
  leaves_at sides pending x nodes o = elim o as (λ p. List (Leaf X)) [
    | None ↦ (record { node = x; sides = sides }) ∷ leaves_of fork_of pending nodes
    | Some f ↦ leaves_of fork_of ((sides ++ (first f ∷ [])) ∷ (sides ++ (second f ∷ [])) ∷ pending) nodes
  ]

  -- at a split the way goes on by its first side
  pub leaves_on-split : (way : List Step) (x : X) (nodes : List X) (f : Fork) → fork_of x ≡ Some f →
      leaves_on fork_of way (x ∷ nodes) ≡ leaves_on fork_of (way ++ (record { split = f.split; tail = f.tail; later = false }) ∷ []) nodes
  leaves_on-split way x nodes f is =
      let step : Step = record { split = f.split; tail = f.tail; later = false } in
      ap (leaves_at (way_sides way) (pending_on way) x nodes) is
      ∙ sym (ap (λ (sides : List Side). leaves_of fork_of (sides ∷ pending_on (way ++ step ∷ [])) nodes) (way_sides-append way (step ∷ []))
      ∙ ap (λ (pending : List (List Side)). leaves_of fork_of ((way_sides way ++ (first f ∷ [])) ∷ pending) nodes) (pending-by_first way step [] refl tt))

  -- a leaf has the sides on the way, and the others are those of the trees to come
  pub leaves_on-leaf : (way : List Step) (x : X) (nodes : List X) → fork_of x ≡ None →
      leaves_on fork_of way (x ∷ nodes) ≡ (record { node = x; sides = way_sides way }) ∷ leaves_of fork_of (pending_on way) nodes
  leaves_on-leaf way x nodes is = ap (leaves_at (way_sides way) (pending_on way) x nodes) is

  -- where no tree is to come there is no leaf
  pub leaves_of-none : (nodes : List X) → leaves_of fork_of [] nodes ≡ []
  leaves_of-none [] = refl
  leaves_of-none (x ∷ nodes) = refl

  -- the leaf that is looked for, number `left` of those that are left, after another leaf
  pub found-leaf : (way new : List Step) (more : Bool) (x : X) (nodes : List X) (left : ℕ) (leaf : Leaf X) → fork_of x ≡ None → pending_on way ≡ cond more (way_sides new ∷ pending_on new) [] →
      slice_get (leaves_on fork_of way (x ∷ nodes)) (suc left) ≡ Some leaf → slice_get (leaves_on fork_of new nodes) left ≡ Some leaf
  found-leaf way new more x nodes left leaf is goes found =
      by_more more
      (sym (ap (λ (leaves : List (Leaf X)). slice_get leaves (suc left)) (leaves_on-leaf way x nodes is) ∙ ap (λ (pending : List (List Side)). slice_get (leaves_of fork_of pending nodes) left) goes) ∙ found)
    where
      by_more : (b : Bool) → slice_get (leaves_of fork_of (cond b (way_sides new ∷ pending_on new) []) nodes) left ≡ Some leaf → slice_get (leaves_on fork_of new nodes) left ≡ Some leaf
      by_more true here = here
      by_more false here = absurd (none-some leaf (sym (ap (λ (leaves : List (Leaf X)). slice_get leaves left) (leaves_of-none nodes)) ∙ here))
