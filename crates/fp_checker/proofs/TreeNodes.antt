-- Nodes of a tree, one after another.
use Rattle.std.proofs.Common.{◌≡◌, ℕ, zero, suc, ◌+◌, ◌-◌, ◌<◌, ◌≤◌, true, cond, List, [], ◌∷◌, length, drop, get_or, nat_eq, refl, sym, ap, ◌∙◌, subst, arith, eqb-true, eq-eqb}
use Rattle.std.specs.Prelude.{◌↔◌, is_some}
use Rattle.std.proofs.lemmas.List.{drop_all, drop_more}
use Rattle.fp_model.specs.Problem.{Problem}
use Rattle.fp_tree.specs.declared.sides.Split.{Split}
use Rattle.fp_certificate_lines.specs.declared.certificates.Narrowing.{Narrowing}
use Rattle.fp_certificate_lines.specs.declared.certificates.Node.{Node}
use Rattle.fp_certificate_lines.specs.declared.certificates.Node.TheVariants.{Branch, Leaf, Narrow}
use Rattle.fp_certificate_lines.specs.declared.certificates.Valuation.{Valuation}
use Rattle.fp_certificate_rules.specs.Leaves.{AreNarrowedTrees, fork_of, is_narrowing}

-- the nodes from a place on, where the node there is known
pub nodes-from : (nodes : List Node) (i : ℕ) (d x : Node) → i < length nodes → get_or nodes i d ≡ x → drop i nodes ≡ x ∷ drop (i + 1) nodes
nodes-from nodes i d x lt is = drop_more nodes i d lt ∙ ap (λ (y : Node). y ∷ drop (i + 1) nodes) is

branch-trees : (split : Split) (rest : List Node) (whole : Type 0) (pending : ℕ) → (pending ≡ 0 → ⊥) → (AreNarrowedTrees pending (Branch split ∷ rest) ↔ whole) → (AreNarrowedTrees (pending + 1) rest ↔ whole)
branch-trees split rest whole zero some same = absurd (some refl)
branch-trees split rest whole (suc m) some same =
    let on : suc (suc m) ≡ suc m + 1 = omega arith in
    subst (λ (n : ℕ). AreNarrowedTrees n rest ↔ whole) on same

leaf-trees : (valuation : Valuation) (rest : List Node) (whole : Type 0) (pending : ℕ) → (pending ≡ 0 → ⊥) → (AreNarrowedTrees pending (Leaf valuation ∷ rest) ↔ whole) → (AreNarrowedTrees (pending - 1) rest ↔ whole)
leaf-trees valuation rest whole zero some same = absurd (some refl)
leaf-trees valuation rest whole (suc m) some same =
    let on : m ≡ suc m - 1 = omega arith in
    subst (λ (n : ℕ). AreNarrowedTrees n rest ↔ whole) on same

narrowed-trees : (narrowing : Narrowing) (rest : List Node) (whole : Type 0) (pending : ℕ) → (pending ≡ 0 → ⊥) → (AreNarrowedTrees pending (Narrow narrowing ∷ rest) ↔ whole) → (AreNarrowedTrees pending rest ↔ whole)
narrowed-trees narrowing rest whole zero some same = absurd (some refl)
narrowed-trees narrowing rest whole (suc m) some same = same

module _ (nodes : List Node) (whole : Type 0) (i : ℕ) where
  module _ (pending next : ℕ) (d : Node) (lt : i < length nodes) (some : pending ≡ 0 → ⊥) (same : AreNarrowedTrees pending (drop i nodes) ↔ whole) where
    -- what is left begins with the node here
    left-from : (x : Node) → get_or nodes i d ≡ x → (AreNarrowedTrees pending (x ∷ drop (i + 1) nodes) ↔ whole)
    left-from x is = subst (λ (rest : List Node). AreNarrowedTrees pending rest ↔ whole) (nodes-from nodes i d x lt is) same

    -- a split opens one more tree
    pub after-branch : (split : Split) → get_or nodes i d ≡ Branch split → next ≡ pending + 1 → (AreNarrowedTrees next (drop (i + 1) nodes) ↔ whole)
    after-branch split is count = subst (λ (n : ℕ). AreNarrowedTrees n (drop (i + 1) nodes) ↔ whole) (sym count) (branch-trees split (drop (i + 1) nodes) whole pending some (left-from (Branch split) is))

    -- a leaf ends one
    pub after-leaf : (valuation : Valuation) → get_or nodes i d ≡ Leaf valuation → next ≡ pending - 1 → (AreNarrowedTrees next (drop (i + 1) nodes) ↔ whole)
    after-leaf valuation is count = subst (λ (n : ℕ). AreNarrowedTrees n (drop (i + 1) nodes) ↔ whole) (sym count) (leaf-trees valuation (drop (i + 1) nodes) whole pending some (left-from (Leaf valuation) is))

    -- a narrowing leaves as many
    pub after-narrowing : (narrowing : Narrowing) → get_or nodes i d ≡ Narrow narrowing → next ≡ pending → (AreNarrowedTrees next (drop (i + 1) nodes) ↔ whole)
    after-narrowing narrowing is count =
        subst (λ (n : ℕ). AreNarrowedTrees n (drop (i + 1) nodes) ↔ whole) (sym count) (narrowed-trees narrowing (drop (i + 1) nodes) whole pending some (left-from (Narrow narrowing) is))

  -- at the end the nodes are trees where no tree is to come
  pub at-end : (pending : ℕ) → length nodes ≤ i → (AreNarrowedTrees pending (drop i nodes) ↔ whole) → (nat_eq pending 0 ≡ true ↔ whole)
  at-end pending long same =
      let ended : (pending ≡ 0 ↔ whole) = subst (λ (rest : List Node). AreNarrowedTrees pending rest ↔ whole) (drop_all i nodes long) same in
      (λ h. ended.0 (eqb-true pending 0 h), λ w. eq-eqb pending 0 (ended.1 w))

no-trees : (x : Node) (rest : List Node) → AreNarrowedTrees 0 (x ∷ rest) → ⊥
no-trees x rest trees = trees

-- nodes that are left where no tree is to come are none
pub none-to_come : (nodes : List Node) (i pending : ℕ) → i < length nodes → pending ≡ 0 → AreNarrowedTrees pending (drop i nodes) → ⊥
none-to_come [] i pending lt none trees = absurd (omega (arith, lt))
none-to_come (x ∷ nodes) i pending lt none trees =
    no-trees (get_or (x ∷ nodes) i x) (drop (i + 1) (x ∷ nodes))
    (subst (λ (rest : List Node). AreNarrowedTrees 0 rest) (drop_more (x ∷ nodes) i x lt) (subst (λ (n : ℕ). AreNarrowedTrees n (drop i (x ∷ nodes))) none trees))

-- whether a node is a split, as a number
pub branch-counts : (p : Problem) (x : Node) (split : Split) → x ≡ Branch split → ◌≡◌ {A = ℕ} (cond (is_some (fork_of p x)) 1 0) 1
branch-counts p x split is = ap (λ (y : Node). cond (is_some (fork_of p y)) 1 0) is

pub leaf-counts : (p : Problem) (x : Node) (valuation : Valuation) → x ≡ Leaf valuation → ◌≡◌ {A = ℕ} (cond (is_some (fork_of p x)) 1 0) 0
leaf-counts p x valuation is = ap (λ (y : Node). cond (is_some (fork_of p y)) 1 0) is

pub narrowing-counts : (p : Problem) (x : Node) (narrowing : Narrowing) → x ≡ Narrow narrowing → ◌≡◌ {A = ℕ} (cond (is_some (fork_of p x)) 1 0) 0
narrowing-counts p x narrowing is = ap (λ (y : Node). cond (is_some (fork_of p y)) 1 0) is

-- and whether it is a narrowing
pub narrowing-one : (x : Node) (narrowing : Narrowing) → x ≡ Narrow narrowing → ◌≡◌ {A = ℕ} (cond (is_narrowing x) 1 0) 1
narrowing-one x narrowing is = ap (λ (y : Node). cond (is_narrowing y) 1 0) is

pub branch-none : (x : Node) (split : Split) → x ≡ Branch split → ◌≡◌ {A = ℕ} (cond (is_narrowing x) 1 0) 0
branch-none x split is = ap (λ (y : Node). cond (is_narrowing y) 1 0) is

pub leaf-none : (x : Node) (valuation : Valuation) → x ≡ Leaf valuation → ◌≡◌ {A = ℕ} (cond (is_narrowing x) 1 0) 0
leaf-none x valuation is = ap (λ (y : Node). cond (is_narrowing y) 1 0) is
