use Rattle.std.proofs.Common.{◌≡◌, sym, subst, arith}
use Rattle.std.specs.Prelude.{Option, IsSomeAnd, slice_get}
use Rattle.fp_tree.specs.declared.sides.Split.{Split}
use Rattle.fp_tree.specs.Nodes.{split_of}
use Rattle.fp_tree.proofs.TreeNodes.{length-kinds-seen, split_of-seen}
use Rattle.fp_tree.proofs.trees.Tree.split_at.Goals as goal

pub index-requires : goal.index-requires
index-requires g c = omega (arith, length-kinds-seen _ _ _ _ c.self.view_is c.self.invariant)

pub returns : goal.returns
returns g c =
    subst (λ (split : Option Split). IsSomeAnd (slice_get c.args.self.now c.args.node) (λ n. split_of n ≡ split)) (sym c.split.ensures)
    (split_of-seen _ _ _ _ c.self.view_is c.self.invariant c.args.node c.index.result.now c.requires c.index.ensures)
