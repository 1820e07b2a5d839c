-- The times so far are the points up to the last one.
use Rattle.std.proofs.Common.{List}
use Rattle.std.specs.Prelude.{ℕ}
use Rattle.fp_timenodes.specs.Points.{points_at}
use Rattle.fp_timenodes.proofs.TimelinePoints.{list_has-zero}
use Rattle.fp_longestarcs.proofs.PointLists.{HaveSamePoints-listed, AreUntil-push, AreUntil-zero}
use Rattle.fp_longestarcs.proofs.listing.times_at.Goals as goal

pub loop-next-init : goal.loop-next-init
loop-next-init c =
    let qs : List ℕ = points_at c.args.points.now c.args.terminal c.args.round in
    rw c.in_ok-times.ensures.items (AreUntil-zero qs (list_has-zero c.args.points.now c.args.terminal c.args.round))

pub loop-next-preserved : goal.loop-next-preserved
loop-next-preserved c =
    let qs : List ℕ = points_at c.args.points.now c.args.terminal c.args.round in
    rw c.in_ok-push.ensures.items (AreUntil-push qs c.loop-next.times.items c.loop-next.last c.in-Some.next c.loop-next.invariant c.in-Some.ensures.least c.in-Some.ensures.in_time)

pub returns-clause-same : goal.returns-clause-same
returns-clause-same c =
    HaveSamePoints-listed (points_at c.args.points.now c.args.terminal c.args.round) c.loop-next.times.items c.loop-next.last c.loop-next.invariant c.in_default.ensures.least

pub returns-clause-are : goal.returns-clause-are
returns-clause-are c = c.loop-next.invariant.are
