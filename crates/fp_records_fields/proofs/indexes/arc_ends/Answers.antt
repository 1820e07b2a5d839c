use Rattle.std.proofs.Common.{◌∙◌}
use Rattle.fp_records_fields.proofs.DistinctParts.{ends-after}
use Rattle.fp_records_fields.proofs.indexes.arc_ends.Goals as goal

pub loop-arc-preserved : goal.loop-arc-preserved
loop-arc-preserved c =
    c.in_ok-insert.ensures.keys ∙ ends-after c.args.arcs.now c.loop-arc.arc-index _ c.loop-arc.ends.keys c.loop-arc.invariant c.requires c.loop-arc-test.true
