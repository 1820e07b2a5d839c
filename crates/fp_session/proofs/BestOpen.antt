-- The best open leaf is one, and is open.
use Rattle.std.proofs.Common.{◌≡◌, ℕ, zero, suc, ◌<◌, List, [], ◌∷◌, length, false, arith}
use Rattle.std.specs.Prelude.{HoldsAt, IsSomeAnd, slice_get}
use Rattle.fp_tree.specs.Nodes.{IsBestOpen, Node, closed_of, fork_of, leaf_at}
use Rattle.fp_tree.specs.Trees.{Leaf, tree_leaves}
use Rattle.fp_session.specs.declared.payloads.Payload.{Payload}

-- what holds of the element at a place within a list
some-at : {X : Type 0} (P : X → Type 0) (xs : List X) (k : ℕ) → k < length xs → HoldsAt P xs k → IsSomeAnd (slice_get xs k) P
some-at P [] k lt holds = absurd (omega (arith, lt))
some-at P (x ∷ xs) zero lt holds = holds x
some-at P (x ∷ xs) (suc k) lt holds = some-at P xs k (omega (arith, lt)) holds

pub best-open : (nodes : List (Node Payload)) (k : ℕ) → IsBestOpen nodes k → IsSomeAnd (leaf_at nodes k) (λ (l : Leaf (Node Payload)). closed_of l.node ≡ false)
best-open nodes k best = some-at (λ (l : Leaf (Node Payload)). closed_of l.node ≡ false) (tree_leaves fork_of nodes) k best.there best.is_open
