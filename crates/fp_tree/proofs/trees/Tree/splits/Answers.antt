use Rattle.std.proofs.Common.{arith}
use Rattle.fp_tree.proofs.TreeNodes.{split_count-seen}
use Rattle.fp_tree.proofs.trees.Tree.splits.Goals as goal

pub returns-clause-count : goal.returns-clause-count
returns-clause-count g c = omega (arith, split_count-seen _ _ _ _ c.self.view_is c.self.invariant)
