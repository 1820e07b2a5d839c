use Rattle.std.proofs.Common.{◌+◌, ◌≤◌, ◌∙◌, arith}
use Rattle.fp_allowed.proofs.FreeMoments.{first_found, first_later}
use Rattle.fp_allowed.proofs.free_moments.first_free.Goals as goal

pub loop-lo-preserved : goal.loop-lo-preserved
loop-lo-preserved c =
    let part = c.first_part-last.ensures in
    let begun : c.args.at ≤ c.first_part-last.result.0 + 1 = omega (arith, c.loop-lo.invariant.0, part.first) in
    let after : c.args.window.lo ≤ c.first_part-last.result.0 + 1 = omega (arith, c.loop-lo.invariant.1, part.first) in (
      begun,
      after,
      first_later c.args.window c.args.arc c.args.sides.now c.args.at c.loop-lo.lo c.first_part-last.result.0 (λ m late early. part.alike m late early ∙ c.if-free.false) c.loop-lo.invariant.2,
    )

pub returns-then-free : goal.returns-then-free
returns-then-free c =
    let part = c.first_part-last.ensures in
    first_found c.args.window c.args.arc c.args.sides.now c.args.at c.loop-lo.lo c.first_part-last.result.0 c.loop-lo.invariant.0 c.loop-lo.invariant.1 c.loop-lo-test.true part.first
    (λ m late early. part.alike m late early ∙ c.if-free.true) c.loop-lo.invariant.2

pub returns : goal.returns
returns c = λ m has. absurd (omega (arith, c.loop-lo-test.false, c.loop-lo.invariant.2 m has, has.1.before))
