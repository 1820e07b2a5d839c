use Rattle.std.proofs.Common.{◌≡◌, length, false, arith}
use Rattle.fp_allowed.proofs.MomentRows.{moments_counted, moments_first, moments_more}
use Rattle.fp_allowed.proofs.RowBits.{length-with_range}
use Rattle.fp_allowed.proofs.departures_left.count_moments.Goals as goal

pub fill_range-requires-clause-within : goal.fill_range-requires-clause-within
fill_range-requires-clause-within c =
    let long : length c.clear_range.new.self ≡ length c.args.moments.now =
    rw c.clear_range.ensures.bits (length-with_range c.args.moments.now 0 100001 false (omega arith) (omega (arith, c.requires.long))) in
    omega (arith, long, c.requires.long, c.requires.in_time)

pub loop-side-init : goal.loop-side-init
loop-side-init c =
    moments_first c.args.window c.args.arc c.args.sides.now c.args.moments.now c.clear_range.new.self c.fill_range.new.self c.requires.some (omega (arith, c.requires.in_time)) c.requires.long
    c.clear_range.ensures.bits c.fill_range.ensures.bits

pub loop-side-preserved : goal.loop-side-preserved
loop-side-preserved c =
    moments_more c.args.window c.args.arc c.args.sides.now c.loop-side.side-index _ c.loop-side.moments c.clear_range-in-loop-side.new.self c.forbidden-from.result.0 c.forbidden-from.result.1
    c.loop-side-test.true c.loop-side.invariant c.forbidden-from.ensures.order c.forbidden-from.ensures.within c.forbidden-from.ensures.exact c.clear_range-in-loop-side.ensures.bits

pub returns-clause-exact : goal.returns-clause-exact
returns-clause-exact c =
    rw c.count.ensures
    (moments_counted c.args.window c.args.arc c.args.sides.now c.loop-side.side-index c.loop-side.moments (omega (arith, c.requires.in_time)) c.loop-side-test.false c.loop-side.invariant)
