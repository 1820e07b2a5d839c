use Rattle.std.proofs.Common.{◌≡◌, List, length, ap, subst, arith}
use Rattle.std.specs.Prelude.{IsSomeAnd, Vec, slice_get}
use Rattle.std.specs.declared.alloc.Global.{Global}
use Rattle.std.proofs.lemmas.Result.{IfOk-weaker}
use Rattle.fp_tree.specs.declared.layout.Kind.{Kind}
use Rattle.fp_tree.specs.declared.sides.Side.{Side}
use Rattle.fp_tree.specs.Trees.{tree_leaves}
use Rattle.fp_tree.specs.Nodes.{leaf_at}
use Rattle.fp_tree.specs.Layout.{fork_of_kind}
use Rattle.fp_tree.proofs.TreeNodes.{leaf_count-seen, leaves-kinds, sides-seen}
use Rattle.fp_tree.proofs.trees.Tree.leaf_sides.Goals as goal

pub sides_to-requires : goal.sides_to-requires
sides_to-requires g c =
    omega (
      arith,
      ap (λ (kinds : List Kind). length (tree_leaves fork_of_kind kinds)) c.as_slice.ensures.value,
      leaves-kinds _ _ _ _ c.self.view_is c.self.invariant,
      leaf_count-seen _ _ _ _ c.self.view_is c.self.invariant,
    )

pub returns : goal.returns
returns g c =
    IfOk-weaker c.sides_to.result
    (λ (sides : Vec Side Global). IsSomeAnd (slice_get (tree_leaves fork_of_kind c.as_slice.result.now) c.args.leaf) (λ l. l.sides ≡ sides.items))
    (λ (sides : Vec Side Global). IsSomeAnd (leaf_at c.args.self.now c.args.leaf) (λ l. l.sides ≡ sides.items))
    (λ sides is.
    sides-seen _ _ _ _ c.self.view_is c.self.invariant c.args.leaf sides.items
    (subst (λ (kinds : List Kind). IsSomeAnd (slice_get (tree_leaves fork_of_kind kinds) c.args.leaf) (λ l. l.sides ≡ sides.items)) c.as_slice.ensures.value is))
    c.sides_to.ensures
