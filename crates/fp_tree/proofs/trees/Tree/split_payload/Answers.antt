use Rattle.std.proofs.Common.{arith}
use Rattle.fp_tree.proofs.TreeNodes.{split_count-seen, split_at-seen}
use Rattle.fp_tree.proofs.trees.Tree.split_payload.Goals as goal

pub index-requires : goal.index-requires
index-requires g c = omega (arith, split_count-seen _ _ _ _ c.self.view_is c.self.invariant)

pub returns : goal.returns
returns g c = split_at-seen _ _ _ _ c.self.view_is c.self.invariant c.args.split c.index.result.now c.requires c.index.ensures
