use Rattle.std.proofs.Common.{◌<◌, List, length, ap, ◌∙◌, get_or, arith}
use Rattle.std.proofs.lemmas.List.{take_all}
use Rattle.std.proofs.lemmas.List.Filters.{length-filter_more}
use Rattle.fp_tree.specs.declared.sides.Split.TheVariants.{ByArc}
use Rattle.fp_certificate_lines.specs.declared.certificates.Node.{Node}
use Rattle.fp_certificate_lines.specs.declared.certificates.Node.TheVariants.{Branch}
use Rattle.fp_certificate_rules.specs.Leaves.{is_narrowing, narrowings_among}
use Rattle.fp_checker.proofs.TreeNodes.{branch-none, leaf-none, narrowing-one}
use Rattle.fp_checker.proofs.rules.trees.narrowing_count.Goals as goal
use Rattle.fp_checker.proofs.rules.trees.narrowing_count.Goals.{in-Branch, in-Leaf, in-Narrow}

pub loop-node-preserved : goal.loop-node-preserved
loop-node-preserved c =
    let none : Node = Branch (ByArc 0 0) in
    let nodes : List Node = c.args.nodes.now in
    let lt : c.loop-node.node-index < length nodes = omega arith in
    elim c.match-node.branch [
      | in-Narrow w ↦ record {
        few = omega (arith, w.count-is, c.loop-node.invariant.few);
        same = omega (
          arith,
          w.count-is,
          c.loop-node.invariant.same,
          length-filter_more is_narrowing nodes c.loop-node.node-index none lt,
          narrowing-one (get_or nodes c.loop-node.node-index none) _ w.in-Narrow.is,
        );
      }
      | in-Branch w ↦ record {
        few = omega (arith, w.count-is, c.loop-node.invariant.few);
        same = omega (
          arith,
          w.count-is,
          c.loop-node.invariant.same,
          length-filter_more is_narrowing nodes c.loop-node.node-index none lt,
          branch-none (get_or nodes c.loop-node.node-index none) _ w.in-Branch.is,
        );
      }
      | in-Leaf w ↦ record {
        few = omega (arith, w.count-is, c.loop-node.invariant.few);
        same = omega (
          arith,
          w.count-is,
          c.loop-node.invariant.same,
          length-filter_more is_narrowing nodes c.loop-node.node-index none lt,
          leaf-none (get_or nodes c.loop-node.node-index none) _ w.in-Leaf.is,
        );
      }
    ]

pub returns : goal.returns
returns c = c.loop-node.invariant.same ∙ ap (λ (xs : List Node). length (narrowings_among xs)) (take_all c.loop-node.node-index c.args.nodes.now (omega arith))
