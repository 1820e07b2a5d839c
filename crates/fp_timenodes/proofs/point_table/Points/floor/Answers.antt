-- The timeline of the terminal has its points.
use Rattle.std.proofs.Common.{ℕ, sym, ◌∙◌, subst}
use Rattle.fp_timenodes.specs.Floor.{IsFloorPoint}
use Rattle.fp_timenodes.specs.Points.{TimePoints, points_at, HasValidPoints}
use Rattle.fp_timenodes.specs.Stamps.{points_of}
use Rattle.fp_timenodes.proofs.Floors.{IsFloorPoint-floor_point, floor_same}
use Rattle.fp_timenodes.proofs.TimelinePoints.{points_at_latest, HaveSamePoints-timeline, list_has-zero}
use Rattle.fp_timenodes.proofs.point_table.Points.floor.Goals as goal

pub returns-clause-value : goal.returns-clause-value
returns-clause-value c =
    let p = c.self.inside in
    let stamps = c.index-timeline.result.now in
    let points = HaveSamePoints-timeline c.args.self.now p.first.items p.added.items p.timelines.items c.args.terminal c.args.round stamps c.self.invariant c.self.view_is c.requires c.index-timeline.ensures in
    c.floor.ensures ∙ floor_same (points_of stamps c.args.round) (points_at c.args.self.now c.args.terminal c.args.round) 1 c.args.at points

pub returns-clause-greatest : goal.returns-clause-greatest
returns-clause-greatest c =
    let qs = points_at c.args.self.now c.args.terminal c.args.round in
    subst (λ (m : ℕ). IsFloorPoint qs c.args.at m) (sym (returns-clause-value c)) (IsFloorPoint-floor_point qs c.args.at (list_has-zero c.args.self.now c.args.terminal c.args.round))

pub returns-clause-in_time : goal.returns-clause-in_time
returns-clause-in_time c =
    let valid = subst (λ (v : TimePoints). HasValidPoints v) c.self.view_is c.self.invariant.valid in
    points_at_latest c.args.self.now c.args.terminal c.args.round c.floor.result valid (returns-clause-greatest c).0
