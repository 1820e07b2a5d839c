use Rattle.fp_duals_leaves.proofs.SoundSpans.{arcs-of}
use Rattle.fp_duals_leaves.proofs.span_tests.are_in_order.Goals as goal

pub check_spans-requires : goal.check_spans-requires
check_spans-requires c = record { few = c.requires.few; arcs = arcs-of c.args.instance.now c.args.spans.now c.requires.range }
