use Rattle.std.proofs.Common.{arith}
use Rattle.fp_flatnet.proofs.WindowTimes.{BelongsTo-FitsInstance}
use Rattle.fp_duals_leaves.proofs.SoundSpans.{paid-told}
use Rattle.fp_duals_leaves.proofs.span_tests.are_sound.Goals as goal

pub are_paid_beside-requires-clause-fits : goal.are_paid_beside-requires-clause-fits
are_paid_beside-requires-clause-fits c = BelongsTo-FitsInstance c.args.instance.now c.args.windows.now c.requires

pub returns : goal.returns
returns c =
    paid-told c.args.instance.now c.args.windows.now c.in_ok-points.points c.args.spans.now c.args.gifts.now c.are_paid_beside.result c.requires c.in_ok-points.ensures.begins c.if-not-are_in_range.ensures c.if-not-gifts_in_range.ensures
    (omega (arith, c.if-spans.false)) c.are_paid_beside.ensures
