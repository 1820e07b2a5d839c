use Rattle.std.proofs.Common.{◌∙◌, ap, sym, arith}
use Rattle.fp_session.proofs.TreeLines.{leaf-here, leaf-line, split-line}
use Rattle.fp_session.proofs.tree_lines.tree_lines.Goals as goal
use Rattle.fp_session.proofs.tree_lines.tree_lines.Goals.{in-Some+in_ok-push-in-Some, in-None+in_ok-push-in-None}

pub payload-requires : goal.payload-requires
payload-requires c = (leaf-here c.args.tree.now c.loop-node.node c.loop-node.leaf c.leaves_cover_all.ensures.tree c.loop-node.invariant.leaf c.in-None.ensures).within

pub overflow_add-leaf : goal.overflow_add-leaf
overflow_add-leaf c =
    let here = leaf-here c.args.tree.now c.loop-node.node c.loop-node.leaf c.leaves_cover_all.ensures.tree c.loop-node.invariant.leaf c.in-None.ensures in
    omega (arith, here.within, c.leaves.ensures.count, c.leaves.ensures.one_more, c.splits.ensures.count, c.splits.ensures.few)

pub loop-node-preserved : goal.loop-node-preserved
loop-node-preserved c =
    elim c.match-split_at.branch [
      | in-Some+in_ok-push-in-Some w ↦
          let both = split-line c.args.tree.now c.loop-node.node w.in-Some.split c.loop-node.lines.items w.in-Some.ensures c.loop-node.invariant.lines in
          record {
            lines = ap (λ v. v.items) w.lines-is ∙ w.in_ok-push-in-Some.ensures.items ∙ both.0;
            leaf = w.leaf-is ∙ c.loop-node.invariant.leaf ∙ sym both.1;
          }
      | in-None+in_ok-push-in-None w ↦
          let here = leaf-here c.args.tree.now c.loop-node.node c.loop-node.leaf c.leaves_cover_all.ensures.tree c.loop-node.invariant.leaf w.in-None.ensures in
          record {
            lines = ap (λ v. v.items) w.lines-is ∙ w.in_ok-push-in-None.ensures.items
                ∙ leaf-line c.args.tree.now c.loop-node.node c.loop-node.leaf w.payload.result.now c.loop-node.lines.items here w.payload.ensures c.loop-node.invariant.lines;
            leaf = w.leaf-is ∙ sym here.after;
          }
    ]
