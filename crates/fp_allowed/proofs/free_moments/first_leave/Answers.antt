use Rattle.std.proofs.Common.{sym}
use Rattle.fp_allowed.proofs.FreeMoments.{first_in_time, first_leaves}
use Rattle.fp_allowed.proofs.free_moments.first_leave.Goals as goal

pub returns-clause-first : goal.returns-clause-first
returns-clause-first c =
    rw c.in_ok-at.was
    (first_leaves c.args.asked.now c.args.arc c.in_ok-window.window c.own_sides.result.now (sym c.in_ok-window.ensures.same) c.own_sides.ensures c.in_ok-at.at c.first_free.result c.first_free.ensures)

pub returns-clause-in_time : goal.returns-clause-in_time
returns-clause-in_time c =
    first_in_time c.in_ok-window.window c.args.arc c.own_sides.result.now c.in_ok-at.at _ c.first_free.result c.in_ok-window.ensures.in_time c.first_free.ensures
