use Rattle.std.proofs.Common.{◌≡◌, drop}
use Rattle.std.specs.Prelude.{slice_get}
use Rattle.fp_tree.specs.Trees.{tree_leaves}
use Rattle.fp_tree.specs.Ways.{leaves_on}
use Rattle.fp_tree.specs.Layout.{fork_of_kind}
use Rattle.fp_tree.proofs.reads.sides_to.Given as goal

-- the leaf that is looked for has the number `left` among those that are left
abbrev pub invariant-loop-kind : goal.invariant-loop-kind
invariant-loop-kind l = slice_get (leaves_on fork_of_kind l.way (drop l.kind-index l.kinds)) l.left ≡ slice_get (tree_leaves fork_of_kind l.kinds) l.leaf
