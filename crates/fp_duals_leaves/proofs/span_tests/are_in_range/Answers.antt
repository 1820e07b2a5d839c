use Rattle.std.proofs.Common.{subst, arith}
use Rattle.std.specs.Prelude.{All}
use Rattle.std.proofs.lemmas.List.{take_all}
use Rattle.std.proofs.lemmas.List.Elements.{All-more}
use Rattle.fp_certificate_lines.specs.Ranges.{IsSpanInRange}
use Rattle.fp_duals_leaves.proofs.span_tests.are_in_range.Goals as goal

pub loop-span-preserved : goal.loop-span-preserved
loop-span-preserved c =
    All-more (IsSpanInRange c.args.instance.now) c.args.spans.now c.loop-span.span-index c.span-item.result (omega arith) c.loop-span.invariant (subst (IsSpanInRange c.args.instance.now) c.span-item.is c.if-not-is_in_range.ensures)

pub returns : goal.returns
returns c = subst (All (IsSpanInRange c.args.instance.now)) (take_all c.loop-span.span-index c.args.spans.now (omega arith)) c.loop-span.invariant
