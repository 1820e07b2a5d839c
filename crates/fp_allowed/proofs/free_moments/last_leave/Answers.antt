use Rattle.std.proofs.Common.{◌≡◌, ◌+◌, sym, arith}
use Rattle.fp_model.specs.Routes.{step}
use Rattle.fp_allowed.proofs.FreeMoments.{last_leaves}
use Rattle.fp_allowed.proofs.free_moments.last_leave.Goals as goal

pub returns : goal.returns
returns c =
    let less : c.in_ok-at.at + step c.args.asked.now.instance.now c.args.arc ≡ c.in_ok-until.field-0 = omega (arith, c.step.ensures.same, c.in_ok-at.ensures) in
    rw c.in_ok-until.was
    (last_leaves c.args.asked.now c.args.arc c.in_ok-window.window c.own_sides.result.now (sym c.in_ok-window.ensures.same) c.own_sides.ensures c.in_ok-until.field-0 c.in_ok-at.at c.last_free.result less
    c.last_free.ensures)
