-- The best of the first leaves, and of all.
use Rattle.std.proofs.Common.{◌≡◌, ℕ, zero, suc, ◌<◌, Bool, true, List, [], ◌∷◌, length, get_or, refl, sym, ap, ◌∙◌, arith}
use Rattle.std.specs.Prelude.{Option, Some, None, MatchOption, All, IsNone, ◌↔◌}
use Rattle.std.specs.List.{AllWithin}
use Rattle.std.proofs.lemmas.Bool.{false≢true}
use Rattle.fp_tree.specs.declared.layout.Kind.{Kind}
use Rattle.fp_tree.specs.declared.layout.LeafState.{LeafState}
use Rattle.fp_tree.specs.Trees.{Leaf}
use Rattle.fp_tree.specs.Nodes.{Node, IsFirstLeast, closed_of, value_of}
use Rattle.fp_tree.specs.Layout.{leaf_node}
use Rattle.fp_tree.proofs.JoinedNodes.{with_states, length-with_states}

module _ {X : Type 0} (closed : X → Bool) (value : X → ℕ) where
  -- the best of the first n: none where all are closed, or else the first of least value
  abbrev pub IsBestOf : List X → ℕ → Option ℕ → Type 0
  IsBestOf xs n best = MatchOption best (AllWithin (λ x. closed x ≡ true) xs 0 n) (IsFirstLeast closed value xs n)

  -- there is none among all exactly where all are closed
  pub IsBestOf-none : (xs : List X) (best : Option ℕ) → IsBestOf xs (length xs) best → IsNone best ↔ All (λ x. closed x ≡ true) xs
  IsBestOf-none xs None all = ((λ _ k d h. all k d (omega arith) h), λ _. refl)
  IsBestOf-none [] (Some b) best = absurd (omega (arith, best.there))
  IsBestOf-none (x ∷ xs) (Some b) best = ((λ none. absurd (false≢true (sym none))), λ all. absurd (false≢true (sym (best.is_open x) ∙ all b x best.there)))

module _ {T : Type 0} where
  -- a leaf with a state, by its number
  node-with_states : (states : List (LeafState T)) (leaves : List (Leaf Kind)) (k : ℕ) (d : Leaf (Node T)) (e : LeafState T) → length leaves ≡ length states → k < length states →
      (get_or (with_states states leaves) k d).node ≡ leaf_node (get_or states k e)
  node-with_states [] leaves k d e same h = absurd (omega (arith, h))
  node-with_states (s ∷ states) [] k d e same h = absurd (omega (arith, same))
  node-with_states (s ∷ states) (l ∷ leaves) zero d e same h = refl
  node-with_states (s ∷ states) (l ∷ leaves) (suc k) d e same h = node-with_states states leaves k d e (omega (arith, same)) (omega (arith, h))

  -- the best by the states is the best of the leaves
  pub IsFirstLeast-with_states : (states : List (LeafState T)) (leaves : List (Leaf Kind)) (k : ℕ) → length leaves ≡ length states →
      IsFirstLeast (λ (s : LeafState T). s.closed) (λ s. s.value) states (length states) k →
      IsFirstLeast (λ (l : Leaf (Node T)). closed_of l.node) (λ l. value_of l.node) (with_states states leaves) (length states) k
  IsFirstLeast-with_states [] leaves k same best = absurd (omega (arith, best.there))
  IsFirstLeast-with_states (e ∷ states) leaves k same best =
      let node = λ (j : ℕ) (d : Leaf (Node T)) (h : j < length (e ∷ states)). node-with_states (e ∷ states) leaves j d e same h in
      record {
        there = best.there;
        is_open = λ d. ap closed_of (node k d best.there) ∙ best.is_open e;
        least = λ j d h o. omega (arith, best.least j e h (sym (ap closed_of (node j d h)) ∙ o), ap value_of (node k d best.there), ap value_of (node j d h));
        first = λ j d h o.
            let within : j < length (e ∷ states) = omega (arith, best.there) in
            omega (arith, best.first j e h (sym (ap closed_of (node j d within)) ∙ o), ap value_of (node k d best.there), ap value_of (node j d within));
      }

  -- all states are closed exactly where all leaves are
  pub All-with_states : (states : List (LeafState T)) (leaves : List (Leaf Kind)) → length leaves ≡ length states →
      All (λ (s : LeafState T). s.closed ≡ true) states ↔ All (λ (l : Leaf (Node T)). closed_of l.node ≡ true) (with_states states leaves)
  All-with_states [] leaves same = ((λ all k d h. absurd (omega (arith, h))), λ all k d h. absurd (omega (arith, h)))
  All-with_states (e ∷ states) [] same = absurd (omega (arith, same))
  All-with_states (e ∷ states) (l ∷ leaves) same =
      let long : length (with_states (e ∷ states) (l ∷ leaves)) ≡ length (e ∷ states) = length-with_states (e ∷ states) (l ∷ leaves) same in (
        (λ all k d h.
            let within : k < length (e ∷ states) = omega (arith, h, long) in
            ap closed_of (node-with_states (e ∷ states) (l ∷ leaves) k d e same within) ∙ all k e within),
        (λ all k d h.
            let f : Leaf (Node T) = record { node = leaf_node e; sides = [] } in
            sym (ap closed_of (node-with_states (e ∷ states) (l ∷ leaves) k f d same h)) ∙ all k f (omega (arith, h, long))),
      )
