use Rattle.std.proofs.Common.{◌≡◌, ℕ, length, subst, arith}
use Rattle.fp_tree.specs.declared.layout.LeafState.{LeafState}
use Rattle.fp_tree.proofs.BestLeaf.{IsBestOf, IsBestOf-none}
use Rattle.fp_tree.proofs.reads.best_open_of.Goals as goal

pub returns-clause-none : goal.returns-clause-none
returns-clause-none g c =
    let all : c.loop-leaf.leaf ≡ length c.args.states.now = omega arith in
    IsBestOf-none (λ (s : LeafState g.row.T.Denot). s.closed) (λ s. s.value) c.args.states.now c.loop-leaf.best
    (subst (λ (n : ℕ). IsBestOf (λ (s : LeafState g.row.T.Denot). s.closed) (λ s. s.value) c.args.states.now n c.loop-leaf.best) all c.loop-leaf.invariant)
