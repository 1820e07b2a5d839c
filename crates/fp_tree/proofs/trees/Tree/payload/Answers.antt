use Rattle.std.proofs.Common.{◌≡◌, refl, arith}
use Rattle.fp_tree.specs.Nodes.{Node}
use Rattle.fp_tree.proofs.TreeNodes.{leaf_count-seen, leaf_at-seen}
use Rattle.fp_tree.proofs.trees.Tree.payload.Goals as goal

pub index-requires : goal.index-requires
index-requires g c = omega (arith, leaf_count-seen _ _ _ _ c.self.view_is c.self.invariant)

pub returns : goal.returns
returns g c =
    leaf_at-seen _ _ _ _ c.self.view_is c.self.invariant c.args.leaf c.index.result.now (λ (n : Node g.row.T.Denot). n.payload ≡ c.index.result.now.payload) c.requires c.index.ensures refl
