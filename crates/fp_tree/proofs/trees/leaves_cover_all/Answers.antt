use Rattle.fp_tree.specs.Nodes.{fork_of}
use Rattle.fp_tree.proofs.Cover.{CoversAll-tree_leaves}
use Rattle.fp_tree.proofs.TreeNodes.{IsTree-seen}
use Rattle.fp_tree.proofs.trees.leaves_cover_all.Goals as goal

pub returns-clause-tree : goal.returns-clause-tree
returns-clause-tree g c = IsTree-seen _ _ _ _ c.tree.view_is c.tree.invariant

pub returns-clause-covers : goal.returns-clause-covers
returns-clause-covers g c = λ tails told. CoversAll-tree_leaves tails fork_of c.args.tree.now told (IsTree-seen _ _ _ _ c.tree.view_is c.tree.invariant)
