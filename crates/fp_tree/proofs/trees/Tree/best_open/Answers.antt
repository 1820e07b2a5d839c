use Rattle.std.proofs.Common.{◌≡◌, true, List, length, subst, arith}
use Rattle.std.specs.Prelude.{◌↔◌, All, IsNone}
use Rattle.std.proofs.lemmas.Option.{IfSome_then}
use Rattle.fp_tree.specs.declared.layout.LeafState.{LeafState}
use Rattle.fp_tree.specs.Nodes.{IsFirstLeast}
use Rattle.fp_tree.proofs.TreeNodes.{one_more-seen, IsBestOpen-seen, All_closed-seen}
use Rattle.fp_tree.proofs.trees.Tree.best_open.Goals as goal

pub best_open_of-requires : goal.best_open_of-requires
best_open_of-requires g c = omega (arith, one_more-seen _ _ _ _ c.self.view_is c.self.invariant)

pub returns-clause-best : goal.returns-clause-best
returns-clause-best g c =
    IfSome_then c.best_open_of.result c.best_open_of.ensures.best
    (λ k best.
    IsBestOpen-seen _ _ _ _ c.self.view_is c.self.invariant k
    (subst (λ (states : List (LeafState g.row.T.Denot)). IsFirstLeast (λ (s : LeafState g.row.T.Denot). s.closed) (λ s. s.value) states (length states) k) c.as_slice.ensures.value best))

pub returns-clause-none : goal.returns-clause-none
returns-clause-none g c =
    let states : IsNone c.best_open_of.result ↔ All (λ (s : LeafState g.row.T.Denot). s.closed ≡ true) c.self.inside.states.items =
    subst (λ (states : List (LeafState g.row.T.Denot)). IsNone c.best_open_of.result ↔ All (λ (s : LeafState g.row.T.Denot). s.closed ≡ true) states) c.as_slice.ensures.value c.best_open_of.ensures.none in
    let leaves = All_closed-seen _ _ _ _ c.self.view_is c.self.invariant in
    ((λ none. leaves.0 (states.0 none)), λ all. states.1 (leaves.1 all))
