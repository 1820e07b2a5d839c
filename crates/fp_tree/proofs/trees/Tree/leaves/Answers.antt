use Rattle.std.proofs.Common.{arith}
use Rattle.fp_tree.proofs.TreeNodes.{leaf_count-seen, split_count-seen, one_more-seen, length-seen}
use Rattle.fp_tree.proofs.trees.Tree.leaves.Goals as goal

pub overflow_cast-result : goal.overflow_cast-result
overflow_cast-result g c = omega (arith, one_more-seen _ _ _ _ c.self.view_is c.self.invariant)

pub returns-clause-count : goal.returns-clause-count
returns-clause-count g c = omega (arith, leaf_count-seen _ _ _ _ c.self.view_is c.self.invariant)

pub returns-clause-one_more : goal.returns-clause-one_more
returns-clause-one_more g c =
    omega (arith, one_more-seen _ _ _ _ c.self.view_is c.self.invariant, split_count-seen _ _ _ _ c.self.view_is c.self.invariant)

pub returns-clause-nodes : goal.returns-clause-nodes
returns-clause-nodes g c =
    omega (arith, length-seen _ _ _ _ c.self.view_is c.self.invariant, split_count-seen _ _ _ _ c.self.view_is c.self.invariant)
