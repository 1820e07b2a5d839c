-- The leaves of a certificate's tree, one after another, with the bars of the narrowings on their ways.
use Rattle.std.proofs.Common.{◌≡◌, ℕ, ◌+◌, ◌<◌, ◌≤◌, List, [], ◌∷◌, ◌++◌, length, drop, get_or, sym, subst}
use Rattle.std.specs.Prelude.{◌↔◌}
use Rattle.std.specs.List.{AllByRecursion}
use Rattle.std.proofs.lemmas.List.{drop_all}
use Rattle.fp_tree.specs.declared.sides.Side.{Side}
use Rattle.fp_tree.specs.declared.sides.Split.{Split}
use Rattle.fp_tree.specs.Sides.{Fork, first, second}
use Rattle.fp_tree.specs.Ways.{way_sides}
use Rattle.fp_certificate_lines.specs.declared.certificates.Narrowing.{Narrowing}
use Rattle.fp_certificate_lines.specs.declared.certificates.Node.{Node}
use Rattle.fp_certificate_lines.specs.declared.certificates.Node.TheVariants as node
use Rattle.fp_certificate_lines.specs.declared.certificates.Valuation.{Valuation}
use Rattle.fp_certificate_rules.specs.Accepted.{claim_of}
use Rattle.fp_certificate_rules.specs.Leaves.{AreNarrowingBars, IsLeafWorth, IsNarrowedLeafWorth, PendingTree, below_side, leaf_at, narrowed_leaves, split_tail, with_narrowing}
use Rattle.fp_checker.specs.declared.rules.narrowed_ways.NarrowedWay.{NarrowedWay}
use Rattle.fp_checker.specs.Cases.{Tested}
use Rattle.fp_checker.specs.LeafWays.{AskAlike, steps_of}
use Rattle.fp_checker.specs.NarrowedWays.{StandsAt}
use Rattle.fp_checker.proofs.NarrowedLeaves.{narrowed-worth}
use Rattle.fp_checker.proofs.TreeNodes.{nodes-from}

-- each leaf among the nodes of the trees to come is worth what the certificate claims
abbrev pub AreWorthIn : Tested → List PendingTree → List Node → Type 0
AreWorthIn t trees nodes = AllByRecursion (IsNarrowedLeafWorth t.problem t.windows t.told (claim_of t.told.answer)) (narrowed_leaves t.problem trees nodes)

-- the leaf at which a way stands is
abbrev pub IsWorthAt : Tested → NarrowedWay → Valuation → Type 0
IsWorthAt t way valuation = IsLeafWorth t.problem t.windows t.told (claim_of t.told.answer) way.bars.items (node.Leaf valuation) (way_sides (steps_of way.way))

-- a way stands at the first of the trees that the nodes that are left make, and the whole holds exactly where each of their leaves is worth
-- the claim
abbrev pub IsLeft : Tested → NarrowedWay → List Node → (whole : Type 0) → Type 0
IsLeft t way nodes whole = (trees : List PendingTree) × StandsAt t way trees × (AreWorthIn t trees nodes ↔ whole)

-- what a call promises of the trees at which it leaves a way
abbrev Goes : Tested → (old new : NarrowedWay) → (PendingTree → List PendingTree → List PendingTree) → Type 0
Goes t old new after = (tree : PendingTree) (pending : List PendingTree) → StandsAt t old (tree ∷ pending) → StandsAt t new (after tree pending)

-- the trees after a split, and after a narrowing
abbrev pub after_split : Fork → PendingTree → List PendingTree → List PendingTree
after_split fork tree pending = below_side tree (first fork) ∷ below_side tree (second fork) ∷ pending

abbrev pub after_narrowing : Narrowing → PendingTree → List PendingTree → List PendingTree
after_narrowing narrowing tree pending = with_narrowing tree narrowing ∷ pending

module _ (t : Tested) (whole : Type 0) (way : NarrowedWay) (nodes : List Node) (i : ℕ) (d : Node) (lt : i < length nodes) where
  -- a split that was passed
  pub passed-branch : (new : NarrowedWay) (split : Split) (tail : ℕ) → get_or nodes i d ≡ node.Branch split → tail ≡ split_tail t.problem split → Goes t way new (after_split (record { split = split; tail = tail })) →
      IsLeft t way (drop i nodes) whole → IsLeft t new (drop (i + 1) nodes) whole
  passed-branch new split tail is tail_is goes ([], stands, same) = absurd stands
  passed-branch new split tail is tail_is goes (tree ∷ pending, stands, same) =
      let after : ℕ → List PendingTree = λ n. after_split (record { split = split; tail = n }) tree pending in (
        after (split_tail t.problem split),
        subst (λ (n : ℕ). StandsAt t new (after n)) tail_is (goes tree pending stands),
        subst (λ (xs : List Node). AreWorthIn t (tree ∷ pending) xs ↔ whole) (nodes-from nodes i d (node.Branch split) lt is) same,
      )

  -- a narrowing that was passed, whose bars were found under sides that ask alike
  pub passed-narrowing : (new : NarrowedWay) (narrowing : Narrowing) (sides own : List Side) → get_or nodes i d ≡ node.Narrow narrowing → AskAlike sides (way.bars.items ++ way_sides (steps_of way.way)) →
      ((before to_node : List Side) → AskAlike sides (before ++ to_node) → AreNarrowingBars t.problem t.windows t.told (claim_of t.told.answer) before (record { narrowing = narrowing; sides = to_node }) own) →
      ((tree : PendingTree) (pending : List PendingTree) (n : Narrowing) → StandsAt t way (tree ∷ pending) →
      AreNarrowingBars t.problem t.windows t.told (claim_of t.told.answer) way.bars.items (record { narrowing = n; sides = tree.sides }) own → StandsAt t new (with_narrowing tree n ∷ pending)) →
      IsLeft t way (drop i nodes) whole → IsLeft t new (drop (i + 1) nodes) whole
  passed-narrowing new narrowing sides own is alike bars goes ([], stands, same) = absurd stands
  passed-narrowing new narrowing sides own is alike bars goes (tree ∷ pending, stands, same) = (
    with_narrowing tree narrowing ∷ pending,
    goes tree pending narrowing stands (bars way.bars.items tree.sides (subst (λ (s : List Side). AskAlike sides (way.bars.items ++ s)) stands.sides alike)),
    subst (λ (xs : List Node). AreWorthIn t (tree ∷ pending) xs ↔ whole) (nodes-from nodes i d (node.Narrow narrowing) lt is) same,
  )

  module _ (valuation : Valuation) (is : get_or nodes i d ≡ node.Leaf valuation) where
    -- a leaf and the leaves after it
    leaf-first : (tree : PendingTree) (pending : List PendingTree) → StandsAt t way (tree ∷ pending) → (AreWorthIn t (tree ∷ pending) (drop i nodes) ↔ whole) →
        (IsWorthAt t way valuation × AreWorthIn t pending (drop (i + 1) nodes) ↔ whole)
    leaf-first tree pending stands same =
        let here = narrowed-worth t.problem t.windows t.told (claim_of t.told.answer) (leaf_at tree (node.Leaf valuation)) way.bars.items stands.bars in
        let at : (sides : List Side) → Type 0 = λ sides. IsLeafWorth t.problem t.windows t.told (claim_of t.told.answer) way.bars.items (node.Leaf valuation) sides in
        let both : AreWorthIn t (tree ∷ pending) (node.Leaf valuation ∷ drop (i + 1) nodes) ↔ whole =
        subst (λ (xs : List Node). AreWorthIn t (tree ∷ pending) xs ↔ whole) (nodes-from nodes i d (node.Leaf valuation) lt is) same in (
          λ all. both.0 (here.0 (subst at stands.sides all.0), all.1),
          λ all. (subst at (sym stands.sides) (here.1 (both.1 all).0), (both.1 all).1),
        )

    -- a leaf that isn't worth the claim refutes the whole
    pub failed-leaf : IsLeft t way (drop i nodes) whole → whole → IsWorthAt t way valuation
    failed-leaf ([], stands, same) all = absurd stands
    failed-leaf (tree ∷ pending, stands, same) all = ((leaf-first tree pending stands same).1 all).0

    -- a leaf that is, after which others come
    pub passed-leaf : (new : NarrowedWay) → IsWorthAt t way valuation → Goes t way new (λ tree pending. pending) → IsLeft t way (drop i nodes) whole → IsLeft t new (drop (i + 1) nodes) whole
    passed-leaf new worth goes ([], stands, same) = absurd stands
    passed-leaf new worth goes (tree ∷ pending, stands, same) =
        let both = leaf-first tree pending stands same in
        (pending, goes tree pending stands, (λ rest. both.0 (worth, rest), λ all. (both.1 all).1))

    -- a leaf that is, after which none comes
    pub last-leaf : IsWorthAt t way valuation → ((tree : PendingTree) (pending : List PendingTree) → StandsAt t way (tree ∷ pending) → pending ≡ []) → IsLeft t way (drop i nodes) whole → whole
    last-leaf worth ended ([], stands, same) = absurd stands
    last-leaf worth ended (tree ∷ pending, stands, same) =
        let none : AreWorthIn t pending (drop (i + 1) nodes) = subst (λ (trees : List PendingTree). AreWorthIn t trees (drop (i + 1) nodes)) (sym (ended tree pending stands)) (no-leaves (drop (i + 1) nodes)) in
        (leaf-first tree pending stands same).0 (worth, none)
      where
        no-leaves : (xs : List Node) → AreWorthIn t [] xs
        no-leaves [] = tt
        no-leaves (x ∷ xs) = tt

-- where no nodes are left, the whole holds
pub all-passed : (t : Tested) (whole : Type 0) (way : NarrowedWay) (nodes : List Node) (i : ℕ) → length nodes ≤ i → IsLeft t way (drop i nodes) whole → whole
all-passed t whole way nodes i long (trees, stands, same) = (subst (λ (xs : List Node). AreWorthIn t trees xs ↔ whole) (drop_all i nodes long) same).0 tt
