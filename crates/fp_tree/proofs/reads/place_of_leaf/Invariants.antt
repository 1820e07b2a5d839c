use Rattle.std.proofs.Common.{◌≡◌, ◌+◌, count_by, take}
use Rattle.fp_tree.specs.Layout.{is_leaf_kind}
use Rattle.fp_tree.proofs.reads.place_of_leaf.Given as goal

-- the leaves that were passed, and those that are left up to the one that is asked for
abbrev pub invariant-loop-place : goal.invariant-loop-place
invariant-loop-place l = count_by is_leaf_kind (take l.place l.kinds) + l.left ≡ l.leaf
