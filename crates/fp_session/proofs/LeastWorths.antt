-- Where spans are sought, the least that the leaves are worth which aren't empty doesn't fall from step to step.
use Rattle.std.proofs.Common.{◌≡◌, ℕ, ◌≤◌, ⊎_elim, inl, inr, Bool, true, false, List, refl, sym, ◌∙◌, subst, arith}
use Rattle.std.specs.Prelude.{⊤, IfOk, IsSomeAnd, None, Option, Some, Result, Ok, Err}
use Rattle.std.specs.declared.alloc.AllocError.{AllocError}
use Rattle.std.proofs.lemmas.Bool.{false≢true}
use Rattle.fp_tree.specs.Nodes.{Node, closed_of, fork_of, leaf_at, value_of}
use Rattle.fp_tree.specs.Sides.{Fork}
use Rattle.fp_tree.specs.Trees.{Leaf, tree_leaves}
use Rattle.fp_session_history.specs.declared.endings.Ending.TheVariants.{Optimal, Unfinished}
use Rattle.fp_session.specs.declared.kept.Kept.{Kept}
use Rattle.fp_session.specs.declared.payloads.Payload.{Payload}
use Rattle.fp_session.specs.declared.steps.Step.{Step}
use Rattle.fp_session.specs.declared.steps.Step.TheVariants as step
use Rattle.fp_session.specs.Nodes.{HasNoMore, IsNoLess}
use Rattle.fp_session.specs.Order.{AreWorthLeast, HasSplitAt, IsInOrder, KeepLeast, WorksAtLeast, with_closed, with_cost, with_divided, with_kept}
use Rattle.fp_session.specs.Searches.{InHand}
use Rattle.fp_session.proofs.Applied.{leaf_at-put, of-value, some-value}
use Rattle.fp_session.proofs.BestOpen.{best-open}
use Rattle.fp_session.proofs.TreeChanges.{leaf_put, leaves-close, leaves-divide, leaves-put}
use Rattle.fp_session.proofs.WholeTrees.{all-at}

-- a leaf is empty, or worth no less than so much
abbrev IsWorthLeaf : ℕ → Leaf (Node Payload) → Type 0
IsWorthLeaf least l = IsNoLess least (record { payload = l.node.payload; value = value_of l.node })

-- what is no less than one that is no less
no-less : (least : ℕ) (kept now : Kept) → kept.payload.empty ≡ false → IsNoLess least kept → IsNoLess kept.value now → IsNoLess least now
no-less least kept now some old new =
    ⊎_elim
    (λ (empty : now.payload.empty ≡ true). inl empty)
    (λ (more : kept.value ≤ now.value).
    ⊎_elim (λ (was : kept.payload.empty ≡ true). absurd (false≢true (sym some ∙ was))) (λ (le : least ≤ kept.value). inr (omega (arith, le, more))) old)
    new

module _ (nodes : List (Node Payload)) (k : ℕ) (l : Leaf (Node Payload)) (at : leaf_at nodes k ≡ Some l) (kept : Kept) (no_more : kept.payload.empty ≡ false → HasNoMore l kept) (least : ℕ) (all : AreWorthLeast least nodes) where
  -- what is kept now is no less, where the leaf was
  kept-now : IsNoLess least kept
  kept-now = by kept.payload.empty refl
    where
      by : (b : Bool) → kept.payload.empty ≡ b → IsNoLess least kept
      by true empty = inl empty
      by false some =
          no-less least (record { payload = l.node.payload; value = value_of l.node }) kept (no_more some).some (all-at (IsWorthLeaf least) (tree_leaves fork_of nodes) k l all at) (inr (no_more some).value)

  -- so the leaves are, where that is kept of it
  pub least-kept : AreWorthLeast least (with_kept k kept nodes)
  least-kept = leaves-put nodes k l at (IsWorthLeaf least) kept.payload kept.value all kept-now

  -- where it is closed then
  pub least-closed : AreWorthLeast least (with_closed k (with_kept k kept nodes))
  least-closed =
      leaves-close (with_kept k kept nodes) k (leaf_put kept.payload kept.value (closed_of l.node) l.sides) (leaf_at-put nodes k l at kept.payload kept.value) (IsWorthLeaf least) least-kept kept-now

  -- and where it is divided, with no less below it
  pub least-divided : (cost : ℕ) (fork : Fork) (first second : Kept) → kept.payload.empty ≡ false → IsNoLess kept.value first → IsNoLess kept.value second →
      AreWorthLeast least (with_divided k fork first second (with_kept k (with_cost cost kept) nodes))
  least-divided cost fork first second some one other =
      let noted : Kept = with_cost cost kept in
      leaves-divide (with_kept k noted nodes) k (leaf_put noted.payload noted.value (closed_of l.node) l.sides) (leaf_at-put nodes k l at noted.payload noted.value) (IsWorthLeaf least) fork first.payload second.payload first.value second.value
      (leaves-put nodes k l at (IsWorthLeaf least) noted.payload noted.value all kept-now) (no-less least kept first some kept-now one) (no-less least kept second some kept-now other)

module _ (unit : Option ℕ) (s t : InHand) where
  -- the leaf at which a step works
  worked : (did : Step) (w : WorksAtLeast unit s t did) → (l : Leaf (Node Payload)) × (leaf_at s.tree w.leaf ≡ Some l)
  worked did w =
      let some = some-value (leaf_at s.tree w.leaf) (λ (l : Leaf (Node Payload)). closed_of l.node ≡ false) (best-open s.tree w.leaf w.least) in
      (some.0, some.1)

  no-more : (did : Step) (w : WorksAtLeast unit s t did) → let one = worked did w in w.kept.payload.empty ≡ false → HasNoMore one.0 w.kept
  no-more did w some = of-value (leaf_at s.tree w.leaf) (worked did w).0 (λ (l : Leaf (Node Payload)). HasNoMore l w.kept) (worked did w).1 (w.no_less some)

  -- where a leaf is kept as it is found
  by-kept : (did : Step) (w : WorksAtLeast unit s t did) → t.tree ≡ with_kept w.leaf w.kept s.tree → KeepLeast s.tree t.tree
  by-kept did w tree least all =
      subst (AreWorthLeast least) (sym tree) (least-kept s.tree w.leaf (worked did w).0 (worked did w).1 w.kept (no-more did w) least all)

  -- where it is closed
  by-closed : (w : WorksAtLeast unit s t step.Closed) → KeepLeast s.tree t.tree
  by-closed w least all =
      subst (AreWorthLeast least) (sym w.work) (least-closed s.tree w.leaf (worked step.Closed w).0 (worked step.Closed w).1 w.kept (no-more step.Closed w) least all)

  -- where it is split
  by-split : IsSomeAnd unit (λ (u : ℕ). ⊤) → (w : WorksAtLeast unit s t step.Branch) → KeepLeast s.tree t.tree
  by-split spans w least all =
      let split : HasSplitAt unit s t w.leaf w.kept = w.work in
      subst (AreWorthLeast least) (sym split.tree)
      (least-divided s.tree w.leaf (worked step.Branch w).0 (worked step.Branch w).1 w.kept (no-more step.Branch w) least all s.cost split.fork split.first split.second split.some (split.no_less.0 (inl spans)) (split.no_less.1 (inl spans)))

  -- a step that is in order keeps the least
  pub keep-order : (did : Step) → IsSomeAnd unit (λ (u : ℕ). ⊤) → IsInOrder unit s t did → KeepLeast s.tree t.tree
  keep-order step.Closed spans w = by-closed w
  keep-order step.Better spans w = by-kept step.Better w w.work
  keep-order step.Round spans w = by-kept step.Round w w.work.tree
  keep-order step.Branch spans w = by-split spans w
  keep-order (step.Done Optimal) spans none = λ least all. subst (AreWorthLeast least) (sym none.tree) all
  keep-order (step.Done (Unfinished spent)) spans w = by-kept (step.Done (Unfinished spent)) w w.work.0

  -- and so it is of a step that was done
  pub keep-any : (r : Result Step AllocError) → IfOk r (λ (did : Step). s.left ≡ None → IsInOrder unit s t did) → IfOk r (λ (did : Step). s.left ≡ None → IsSomeAnd unit (λ (u : ℕ). ⊤) → KeepLeast s.tree t.tree)
  keep-any (Ok did) is = λ going spans. keep-order did spans (is going)
  keep-any (Err e) is = tt
