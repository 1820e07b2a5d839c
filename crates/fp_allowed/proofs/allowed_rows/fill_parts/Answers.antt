use Rattle.std.proofs.Common.{arith}
use Rattle.fp_allowed.proofs.ArcRows.{fills_first, fills_more}
use Rattle.fp_allowed.proofs.allowed_rows.fill_parts.Goals as goal

pub loop-lo-init : goal.loop-lo-init
loop-lo-init c =
    (omega arith, omega (arith, c.requires.some), fills_first c.args.network.now c.args.arc c.args.tail c.args.sides.now c.args.window.lo c.args.row.now)

pub loop-lo-preserved : goal.loop-lo-preserved
loop-lo-preserved c =
    let part = c.first_part-last.ensures in (
      omega (arith, c.loop-lo.invariant.0, part.first),
      omega (arith, part.last),
      fills_more c.args.network.now c.args.arc c.args.tail c.args.sides.now c.args.window.lo (record { lo = c.loop-lo.lo; hi = c.first_part-last.result.0 }) c.first_part-last.result.1 c.args.row.now
          c.loop-lo.row c.fill_part.new.row c.requires.tail c.loop-lo.invariant.0 part.first part.alike c.loop-lo.invariant.2 c.fill_part.ensures,
    )
