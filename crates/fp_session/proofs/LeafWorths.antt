-- What the leaves of a search are worth, and the bound of an answer that is unfinished.
use Rattle.std.proofs.Common.{◌≡◌, ℕ, ◌<◌, ◌≤◌, Bool, true, false, List, replicate, ◌⊎◌, inl, inr, ⊎_elim, refl, sym, ap, ◌∙◌, subst, arith}
use Rattle.std.specs.Prelude.{All, IsSomeAnd, MatchBool, Option, Some}
use Rattle.std.proofs.lemmas.Bool.{false≢true}
use Rattle.std.proofs.lemmas.Option.{slice_get_within}
use Rattle.fp_flatnet.specs.Tables.{windows_in}
use Rattle.fp_tree.specs.declared.sides.Side.{Side}
use Rattle.fp_tree.specs.Nodes.{Node, fork_of as fork_at, leaf_at, leaf_count, value_of}
use Rattle.fp_tree.specs.Trees.{HaveTails, IsTree, Leaf, tree_leaves}
use Rattle.fp_allowed.specs.Allowed.{tails_of}
use Rattle.fp_prices.specs.declared.leaf_prices.LeafPrice.{LeafPrice}
use Rattle.fp_prices_spans.specs.SpanKinds.{spans_beside}
use Rattle.fp_prices_gifts.specs.GiftKinds.{IsPricedValue, gifts_beside}
use Rattle.fp_prices_gifts.proofs.OneGiftValue.{gift_leaves-have-one-value}
use Rattle.fp_certificate_lines.specs.declared.certificates.Node.{Node as Line}
use Rattle.fp_certificate_lines.specs.declared.certificates.Valuation.{Valuation}
use Rattle.fp_certificate_lines.specs.Moments.{by_moments}
use Rattle.fp_certificate_lines.specs.Valuations.{first_sides, sides_valued}
use Rattle.fp_certificate_lines.proofs.NoMoments.{by_moments-none}
use Rattle.fp_certificate_rules.specs.Leaves.{IsLeafEmptyBy, IsLeafValueBy, fork_of}
use Rattle.fp_session_history.specs.Notes.{History, points_of, worth_of}
use Rattle.fp_session_history.specs.PrintedLeaves.{IsEmptyAt, IsLeastWorth, IsOpenBelow, IsPrintedLeaf, IsWorth, OfLeaf}
use Rattle.fp_session_history.specs.Solutions.{AtLeaf}
use Rattle.fp_session_history.specs.Splits.{IsEarnedAt, IsValueAt}
use Rattle.fp_session.specs.declared.payloads.Payload.{Payload}
use Rattle.fp_session.specs.Nodes.{IsEarnedAs, IsKept, IsLeafOf, IsSettled}
use Rattle.fp_session.specs.TreeLines.{IsLeastBelow, leaf_worth, lines_of}
use Rattle.fp_session.proofs.Applied.{some-value}
use Rattle.fp_session.proofs.PrintedTree.{leaf-line, leaf-printed, leaves-printed}
use Rattle.fp_session.proofs.WholeTrees.{all-at}

module _ (h : History) where
  -- what a leaf keeps, by its mark
  by_mark : (G : Type 0) (sides : List Side) (payload : Payload) (value : ℕ) → IsKept h sides payload value → (payload.empty ≡ true → IsEmptyAt h sides payload.valuation → G) →
      (payload.empty ≡ false → IsEarnedAs h sides payload.valuation value → G) → G
  by_mark G sides payload value kept empty earned = cases payload.empty refl kept.worth
    where
      cases : (b : Bool) → payload.empty ≡ b → MatchBool b (IsEmptyAt h sides payload.valuation) (IsEarnedAs h sides payload.valuation value) → G
      cases true is worth = empty is worth
      cases false is worth = earned is worth

  -- a leaf that has a value isn't empty, and keeps that value
  pub value-kept : (sides : List Side) (payload : Payload) (value v : ℕ) → IsKept h sides payload value → IsValueAt h sides payload.valuation v → (payload.empty ≡ false) × (value ≡ v)
  value-kept sides payload value v kept is =
      by_mark ((payload.empty ≡ false) × (value ≡ v)) sides payload value kept
      (λ mark empty.
      let own : LeafPrice = payload.valuation.price in
      let whole : IsPricedValue h.problem (windows_in h.windows) (points_of h own.round) sides h.tables h.spans h.gifts own.kind own.forced v =
      subst (λ (o : Option ℕ). IsPricedValue h.problem (windows_in h.windows) (points_of h own.round) (first_sides o sides) h.tables h.spans h.gifts own.kind own.forced v) empty.whole is in
      absurd (gift_leaves-have-one-value.some h.problem (windows_in h.windows) (points_of h own.round) sides h.tables (spans_beside h.spans own.kind) (gifts_beside h.gifts own.kind) own.kind own.forced v whole empty.empty))
      (λ mark earned.
      let own : LeafPrice = payload.valuation.price in (
        mark,
        earned.is
            ∙ gift_leaves-have-one-value.one h.problem (windows_in h.windows) (points_of h own.round) (sides_valued payload.valuation sides) h.tables (spans_beside h.spans own.kind) (gifts_beside h.gifts own.kind) own.kind own.forced earned.earned.value v
            earned.earned.is is,
      ))

  -- a leaf is printed as it is kept
  pub printed-kept : (sides : List Side) (payload : Payload) (value : ℕ) → IsKept h sides payload value → IsEmptyAt h sides payload.valuation ⊎ IsEarnedAt h sides payload.valuation
  printed-kept sides payload value kept =
      by_mark (IsEmptyAt h sides payload.valuation ⊎ IsEarnedAt h sides payload.valuation) sides payload value kept (λ mark empty. inl empty) (λ mark earned. inr earned.earned)

  -- a leaf, priced by moments or not, is empty, or worth a claim
  abbrev pub IsWorthClaim : (by_moments : Bool) → (claim : ℕ) → List Side → Valuation → Type 0
  IsWorthClaim by_moments claim sides v =
      IsLeafEmptyBy by_moments h.problem (windows_in h.windows) (points_of h v.price.round) sides (spans_beside h.spans v.price.kind)
      ⊎ ((value : ℕ)
      × IsLeafValueBy by_moments h.problem (windows_in h.windows) (points_of h v.price.round) (sides_valued v sides) h.tables (spans_beside h.spans v.price.kind) (gifts_beside h.gifts v.price.kind) v.price.kind v.price.forced value
      × (claim ≤ worth_of h value))

  -- where none of the tables is by moments, it is worth what it keeps
  pub worth-kept : (tables claim : ℕ) (sides : List Side) (payload : Payload) (value : ℕ) → IsKept h sides payload value → (payload.empty ≡ false → claim ≤ worth_of h value) →
      IsWorthClaim (by_moments (replicate tables false) payload.valuation.price.kind) claim sides payload.valuation
  worth-kept tables claim sides payload value kept unmarked =
      let v : Valuation = payload.valuation in
      subst (λ (by : Bool). IsWorthClaim by claim sides v) (sym (by_moments-none tables v.price.kind))
      (by_mark (IsWorthClaim false claim sides v) sides payload value kept (λ mark empty. inl empty.empty)
      (λ mark earned. inr (earned.earned.value, earned.earned.is, subst (λ (n : ℕ). claim ≤ worth_of h n) earned.is (unmarked mark))))

  -- a leaf that is settled and isn't empty is worth the cost
  pub settled-worth : (cost : ℕ) (payload : Payload) (value : ℕ) → IsSettled h cost payload value → payload.empty ≡ false → cost ≤ worth_of h value
  settled-worth cost payload value settled unmarked = ⊎_elim (λ (empty : payload.empty ≡ true). absurd (false≢true (sym unmarked ∙ empty))) (λ (worth : cost ≤ worth_of h value). worth) settled

  module _ (cost : ℕ) (nodes : List (Node Payload)) (tails : HaveTails (tails_of h.problem) fork_at nodes) (whole : IsTree fork_at nodes) (leaves : All (IsLeafOf h cost) (tree_leaves fork_at nodes)) where
    -- a leaf by its number
    pub leaf-of : (k : ℕ) (l : Leaf (Node Payload)) → leaf_at nodes k ≡ Some l → IsLeafOf h cost l
    leaf-of k l at = all-at (IsLeafOf h cost) (tree_leaves fork_at nodes) k l leaves at

    -- all leaves are printed as they are kept
    pub leaves-shown : Rattle.std.specs.List.AllByRecursion (IsPrintedLeaf h) (tree_leaves (fork_of h.problem) (lines_of nodes))
    leaves-shown = leaves-printed h.problem nodes tails whole (IsPrintedLeaf h) (λ k l at. printed-kept l.sides l.node.payload (value_of l.node) (leaf-of k l at).kept)

    -- the leaf that is left, as it is printed
    pub left-shown : (P : Valuation → List Side → Type 0) (k : ℕ) → IsSomeAnd (leaf_at nodes k) (λ (l : Leaf (Node Payload)). P l.node.payload.valuation l.sides) → AtLeaf (tree_leaves (fork_of h.problem) (lines_of nodes)) k P
    left-shown P k is =
        let some = some-value (leaf_at nodes k) (λ (l : Leaf (Node Payload)). P l.node.payload.valuation l.sides) is in
        subst (λ (o : Option (Leaf Line)). IsSomeAnd o (OfLeaf P)) (sym (leaf-line h.problem nodes tails whole k some.0 some.1)) some.2

    module _ (bound : ℕ) (least : IsLeastBelow h cost nodes (leaf_count nodes) bound) where
      -- a leaf that isn't empty is worth the bound
      pub bound-le : (k : ℕ) (l : Leaf (Node Payload)) → leaf_at nodes k ≡ Some l → l.node.payload.empty ≡ false → bound ≤ worth_of h (value_of l.node)
      bound-le k l at unmarked = least.each k l (slice_get_within (tree_leaves fork_at nodes) k l at) at unmarked

      -- where a leaf is worth less than the cost, the bound is below it
      pub bound-lt : (k : ℕ) → IsSomeAnd (leaf_at nodes k) (λ (l : Leaf (Node Payload)). IsOpenBelow h cost l.sides l.node.payload.valuation) → bound < cost
      bound-lt k is =
          let some = some-value (leaf_at nodes k) (λ (l : Leaf (Node Payload)). IsOpenBelow h cost l.sides l.node.payload.valuation) is in
          let l : Leaf (Node Payload) = some.0 in
          let kept = value-kept l.sides l.node.payload (value_of l.node) some.2.value (leaf-of k l some.1).kept some.2.is in
          let le : bound ≤ worth_of h some.2.value = subst (λ (v : ℕ). bound ≤ worth_of h v) kept.1 (bound-le k l some.1 kept.0) in
          omega (arith, le, some.2.below)

      -- and it is the least that a leaf is worth
      pub least-worth : bound < cost → IsLeastWorth h (tree_leaves (fork_of h.problem) (lines_of nodes)) bound
      least-worth below =
          let found = least.some below in
          let some = some-value (leaf_at nodes found.0) (λ (l : Leaf (Node Payload)). (l.node.payload.empty ≡ false) × (bound ≡ leaf_worth h l)) found.1 in
          record {
            each = leaves-printed h.problem nodes tails whole (OfLeaf (λ v sides. (worth : ℕ) → IsWorth h sides v worth → bound ≤ worth))
                (λ k l at worth is.
                let kept = value-kept l.sides l.node.payload (value_of l.node) is.value (leaf-of k l at).kept is.is in
                let le : bound ≤ worth_of h is.value = subst (λ (v : ℕ). bound ≤ worth_of h v) kept.1 (bound-le k l at kept.0) in
                omega (arith, le, is.rounded));
            some = leaf-printed h.problem nodes tails whole (OfLeaf (λ v sides. IsWorth h sides v bound)) found.0 some.0 some.1
                (by_mark (IsWorth h some.0.sides some.0.node.payload.valuation bound) some.0.sides some.0.node.payload (value_of some.0.node) (leaf-of found.0 some.0 some.1).kept
                (λ mark empty. absurd (false≢true (sym some.2.0 ∙ mark)))
                (λ mark earned. record { value = earned.earned.value; is = earned.earned.is; rounded = some.2.1 ∙ ap (λ (v : ℕ). worth_of h v) earned.is }));
          }
