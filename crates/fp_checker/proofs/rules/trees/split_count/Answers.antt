use Rattle.std.proofs.Common.{◌<◌, List, length, ap, ◌∙◌, get_or, arith}
use Rattle.std.specs.Prelude.{is_some}
use Rattle.std.proofs.lemmas.List.{take_all}
use Rattle.std.proofs.lemmas.List.Filters.{length-filter_more}
use Rattle.fp_tree.specs.declared.sides.Split.TheVariants.{ByArc}
use Rattle.fp_tree.specs.Trees.{tree_splits}
use Rattle.fp_certificate_lines.specs.declared.certificates.Node.{Node}
use Rattle.fp_certificate_lines.specs.declared.certificates.Node.TheVariants.{Branch}
use Rattle.fp_certificate_rules.specs.Leaves.{fork_of}
use Rattle.fp_checker.proofs.TreeNodes.{branch-counts, leaf-counts, narrowing-counts}
use Rattle.fp_checker.proofs.rules.trees.split_count.Goals as goal
use Rattle.fp_checker.proofs.rules.trees.split_count.Goals.{in-Branch, in-Leaf, in-Narrow}

pub loop-node-preserved : goal.loop-node-preserved
loop-node-preserved c =
    let none : Node = Branch (ByArc 0 0) in
    let nodes : List Node = c.args.nodes.now in
    let lt : c.loop-node.node-index < length nodes = omega arith in
    elim c.match-node.branch [
      | in-Branch w ↦ record {
        few = omega (arith, w.count-is, c.loop-node.invariant.few);
        same = λ p.
            omega (
              arith,
              w.count-is,
              c.loop-node.invariant.same p,
              length-filter_more (λ x. is_some (fork_of p x)) nodes c.loop-node.node-index none lt,
              branch-counts p (get_or nodes c.loop-node.node-index none) _ w.in-Branch.is,
            );
      }
      | in-Leaf w ↦ record {
        few = omega (arith, w.count-is, c.loop-node.invariant.few);
        same = λ p.
            omega (
              arith,
              w.count-is,
              c.loop-node.invariant.same p,
              length-filter_more (λ x. is_some (fork_of p x)) nodes c.loop-node.node-index none lt,
              leaf-counts p (get_or nodes c.loop-node.node-index none) _ w.in-Leaf.is,
            );
      }
      | in-Narrow w ↦ record {
        few = omega (arith, w.count-is, c.loop-node.invariant.few);
        same = λ p.
            omega (
              arith,
              w.count-is,
              c.loop-node.invariant.same p,
              length-filter_more (λ x. is_some (fork_of p x)) nodes c.loop-node.node-index none lt,
              narrowing-counts p (get_or nodes c.loop-node.node-index none) _ w.in-Narrow.is,
            );
      }
    ]

pub returns : goal.returns
returns c p =
    c.loop-node.invariant.same p ∙ ap (λ (xs : List Node). length (tree_splits (fork_of p) xs)) (take_all c.loop-node.node-index c.args.nodes.now (omega arith))
