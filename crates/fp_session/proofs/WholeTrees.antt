-- What holds of all lines of a search's tree.
use Rattle.std.proofs.Common.{◌≡◌, ℕ, Bool, true, false, cond, List, [], ◌∷◌, get_or, ⊎_elim, refl, sym, ◌∙◌, subst}
use Rattle.std.specs.Prelude.{All, IfSome, Some, None, filter, is_some, slice_get}
use Rattle.std.specs.List.{AllByRecursion}
use Rattle.std.proofs.lemmas.Bool.{cases_Bool, false≢true}
use Rattle.std.proofs.lemmas.List.Elements.{All-head, All-map, All-tail}
use Rattle.std.proofs.lemmas.Option.{get_or_from_slice_get, slice_get-get_or, slice_get_within}
use Rattle.fp_base_lists.proofs.Elements.{AllByRecursion-get_or}
use Rattle.fp_tree.specs.Nodes.{Divided, Node, Role, Undivided, fork_of}
use Rattle.fp_tree.specs.Sides.{Fork}
use Rattle.fp_tree.specs.Trees.{Branch, IsTree, Leaf, tree_branches, tree_leaves}
use Rattle.fp_tree.proofs.Branches.{map-branches_of}
use Rattle.fp_certificate_lines.specs.declared.certificates.Node.{Node as Line}
use Rattle.fp_certificate_lines.specs.declared.certificates.Node.TheVariants as line
use Rattle.fp_session.specs.declared.payloads.Payload.{Payload}
use Rattle.fp_session.specs.TreeLines.{line_of, lines_of}
use Rattle.fp_session.proofs.LeafNumbers.{leaf-at_place, leaves_before}

-- what holds of all elements holds of one at a place
pub all-at : {X : Type 0} (P : X → Type 0) (xs : List X) (k : ℕ) (x : X) → All P xs → slice_get xs k ≡ Some x → P x
all-at P xs k x all at = subst P (get_or_from_slice_get xs k x x at) (all k x (slice_get_within xs k x at))

-- what holds of all elements that pass a test
All-passing : {X : Type 0} (test : X → Bool) (Q : X → Type 0) (xs : List X) → All Q (filter test xs) → AllByRecursion (λ x. test x ≡ true → Q x) xs
All-passing test Q [] all = tt
All-passing {X} test Q (x ∷ xs) all =
    ⊎_elim
    (λ (h : test x ≡ true).
    let here : All Q (x ∷ filter test xs) = subst (λ (b : Bool). All Q (cond b (x ∷ filter test xs) (filter test xs))) h all in
    ((λ is. All-head Q x (filter test xs) here), All-passing test Q xs (All-tail Q x (filter test xs) here)))
    (λ (h : test x ≡ false).
    let here : All Q (filter test xs) = subst (λ (b : Bool). All Q (cond b (x ∷ filter test xs) (filter test xs))) h all in
    ((λ is. absurd (false≢true (sym h ∙ is))), All-passing test Q xs here))
    (cases_Bool (test x))

module _ (Q : Line → Type 0) (nodes : List (Node Payload)) (whole : IsTree fork_of nodes) where
  -- what is asked of a split
  abbrev IsSplitFit : Node Payload → Type 0
  IsSplitFit n = IfSome (fork_of n) (λ (f : Fork). Q (line.Branch f.split))

  -- what holds of the line of a node
  node-fits : (payload : Payload) (role : Role) → let n : Node Payload = record { payload = payload; role = role } in
      (is_some (fork_of n) ≡ true → IsSplitFit n) → (fork_of n ≡ None → Q (line.Leaf payload.valuation)) → Q (line_of n)
  node-fits payload (Divided f) split leaf = split refl
  node-fits payload (Undivided value closed) split leaf = leaf refl

  -- what holds of the lines of all splits and of all leaves holds of all lines
  pub tree-fits : All (λ (b : Branch (Node Payload)). IsSplitFit b.node) (tree_branches fork_of nodes) → All (λ (l : Leaf (Node Payload)). Q (line.Leaf l.node.payload.valuation)) (tree_leaves fork_of nodes) →
      All Q (lines_of nodes)
  tree-fits splits leaves =
      All-map Q line_of nodes
      (λ k d lt.
      let n : Node Payload = get_or nodes k d in
      let passing : AllByRecursion (λ (m : Node Payload). is_some (fork_of m) ≡ true → IsSplitFit m) nodes =
      All-passing (λ (m : Node Payload). is_some (fork_of m)) IsSplitFit nodes
      (subst (All IsSplitFit) (map-branches_of fork_of nodes ([] ∷ []) whole) (All-map IsSplitFit (λ (b : Branch (Node Payload)). b.node) (tree_branches fork_of nodes) splits)) in
      node-fits n.payload n.role (AllByRecursion-get_or (λ (m : Node Payload). is_some (fork_of m) ≡ true → IsSplitFit m) nodes k d passing lt)
      (λ none.
      let it = leaf-at_place fork_of k nodes n whole (slice_get-get_or nodes k d lt) none in
      subst (λ (m : Node Payload). Q (line.Leaf m.payload.valuation)) it.2
      (all-at (λ (l : Leaf (Node Payload)). Q (line.Leaf l.node.payload.valuation)) (tree_leaves fork_of nodes) (leaves_before fork_of k nodes) it.0 leaves it.1)))
