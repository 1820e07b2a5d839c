use Rattle.std.proofs.Common.{List, arith}
use Rattle.std.proofs.lemmas.Bool.{false≢true}
use Rattle.fp_tree.specs.declared.sides.Split.TheVariants.{ByArc}
use Rattle.fp_certificate_lines.specs.declared.certificates.Node.{Node}
use Rattle.fp_certificate_lines.specs.declared.certificates.Node.TheVariants.{Branch}
use Rattle.fp_certificate_rules.specs.Leaves.{AreNarrowedTrees}
use Rattle.fp_checker.proofs.TreeNodes.{after-branch, after-leaf, after-narrowing, at-end, none-to_come}
use Rattle.fp_checker.proofs.rules.trees.is_tree.Goals as goal
use Rattle.fp_checker.proofs.rules.trees.is_tree.Goals.{in-Branch, in-Leaf, in-Narrow}

pub returns-then-pending-eq0 : goal.returns-then-pending-eq0
returns-then-pending-eq0 c = (
  λ h. absurd (false≢true h),
  λ tree. absurd (none-to_come c.args.nodes.now c.loop-node.node-index c.loop-node.pending (omega arith) c.if-pending-eq0.true (c.loop-node.invariant.same.1 tree)),
)

pub loop-node-preserved : goal.loop-node-preserved
loop-node-preserved c =
    let none : Node = Branch (ByArc 0 0) in
    let nodes : List Node = c.args.nodes.now in
    elim c.match-node.branch [
      | in-Branch w ↦ record {
        few = omega (arith, w.pending-is, c.loop-node.invariant.few);
        same = after-branch nodes (AreNarrowedTrees 1 nodes) c.loop-node.node-index c.loop-node.pending c.match-node.pending none (omega arith) c.if-pending-eq0.false c.loop-node.invariant.same _ w.in-Branch.is w.pending-is;
      }
      | in-Leaf w ↦ record {
        few = omega (arith, w.pending-is, c.loop-node.invariant.few);
        same = after-leaf nodes (AreNarrowedTrees 1 nodes) c.loop-node.node-index c.loop-node.pending c.match-node.pending none (omega arith) c.if-pending-eq0.false c.loop-node.invariant.same _ w.in-Leaf.is w.pending-is;
      }
      | in-Narrow w ↦ record {
        few = omega (arith, w.pending-is, c.loop-node.invariant.few);
        same = after-narrowing nodes (AreNarrowedTrees 1 nodes) c.loop-node.node-index c.loop-node.pending c.match-node.pending none (omega arith) c.if-pending-eq0.false c.loop-node.invariant.same _ w.in-Narrow.is w.pending-is;
      }
    ]

pub returns : goal.returns
returns c = at-end c.args.nodes.now (AreNarrowedTrees 1 c.args.nodes.now) c.loop-node.node-index c.loop-node.pending (omega arith) c.loop-node.invariant.same
