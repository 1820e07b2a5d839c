use Rattle.fp_tree.specs.declared.layout.LeafState.{LeafState}
use Rattle.fp_tree.proofs.BestLeaf.{IsBestOf}
use Rattle.fp_tree.proofs.reads.best_open_of.Given as goal

-- the best of the leaves that were passed
abbrev pub invariant-loop-leaf : goal.invariant-loop-leaf
invariant-loop-leaf g l = IsBestOf (λ (s : LeafState g.row.T.Denot). s.closed) (λ s. s.value) l.states l.leaf l.best
