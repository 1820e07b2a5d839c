use Rattle.std.proofs.Common.{◌≡◌, ◌∙◌, ap, sym}
use Rattle.fp_tree.specs.Nodes.{Node, fork_of, split_at}
use Rattle.fp_tree.specs.Trees.{tree_splits}
use Rattle.fp_session.specs.declared.payloads.Payload.{Payload}
use Rattle.fp_session.specs.Nodes.{split_note}
use Rattle.fp_session.proofs.Applied.{some-value}
use Rattle.fp_session.proofs.TreeLines.{map-take_more}
use Rattle.fp_session.proofs.tree_lines.split_notes.Goals as goal

pub loop-split-preserved : goal.loop-split-preserved
loop-split-preserved c =
    let some = some-value (split_at c.args.tree.now c.loop-split.split) (λ (n : Node Payload). n.payload ≡ c.split_payload-payload.result.now) c.split_payload-payload.ensures in
    c.in_ok-push.ensures.items
    ∙ map-take_more (λ (n : Node Payload). split_note n.payload) (tree_splits fork_of c.args.tree.now) c.loop-split.split some.0 c.loop-split.notes.items (split_note c.split_payload-payload.result.now) some.1
    c.loop-split.invariant (ap split_note (sym some.2))
