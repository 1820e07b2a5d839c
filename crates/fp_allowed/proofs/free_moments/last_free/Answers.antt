use Rattle.std.proofs.Common.{◌+◌, ◌<◌, ◌≤◌, min, ◌∙◌, arith}
use Rattle.fp_allowed.proofs.FreeMoments.{last_all, last_found, last_none, last_still}
use Rattle.fp_allowed.proofs.free_moments.last_free.Goals as goal
use Rattle.fp_allowed.proofs.free_moments.last_free.Goals.{else-free, then-free}

pub loop-lo-init : goal.loop-lo-init
loop-lo-init c = (omega arith, last_none c.args.window c.args.arc c.args.sides.now c.args.until c.args.window.lo (omega arith))

pub loop-lo-preserved : goal.loop-lo-preserved
loop-lo-preserved c =
    let part = c.first_part-last.ensures in
    let after : c.args.window.lo ≤ c.first_part-last.result.0 + 1 = omega (arith, c.loop-lo.invariant.0, part.first) in
    let end : c.first_part-last.result.0 ≤ min c.args.window.hi c.args.until = omega (arith, part.last, c.min-hi.ensures) in
    elim c.if-free.branch [
      | then-free w ↦ (
        after,
        rw w.found-is
            (last_found c.args.window c.args.arc c.args.sides.now c.args.until c.loop-lo.lo c.first_part-last.result.0 c.loop-lo.invariant.0 part.first end
            (λ m late early. part.alike m late early ∙ w.if-free.true)),
      )
      | else-free w ↦ (
        after,
        rw w.found-is
            (last_still c.args.window c.args.arc c.args.sides.now c.args.until c.loop-lo.lo c.first_part-last.result.0 c.loop-lo.found part.first
            (λ m late early. part.alike m late early ∙ w.if-free.false) c.loop-lo.invariant.1),
      )
    ]

pub returns : goal.returns
returns c =
    let past : min c.args.window.hi c.args.until < c.loop-lo.lo = omega (arith, c.loop-lo-test.false, c.min-hi.ensures) in
    last_all c.args.window c.args.arc c.args.sides.now c.args.until c.loop-lo.lo c.loop-lo.found past c.loop-lo.invariant.1
