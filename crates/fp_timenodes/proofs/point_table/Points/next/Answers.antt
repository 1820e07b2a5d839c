-- The timeline of the terminal has its points.
use Rattle.std.proofs.Common.{◌∙◌, ◌≤◌, subst, sym}
use Rattle.std.specs.Prelude.{ℕ, Option, Some, None, IfSome}
use Rattle.fp_timenodes.specs.declared.places.TheConstants.{LATEST}
use Rattle.fp_timenodes.specs.Floor.{IsNextPoint}
use Rattle.fp_timenodes.specs.Points.{TimePoints, points_at, HasValidPoints}
use Rattle.fp_timenodes.specs.Stamps.{points_of}
use Rattle.fp_timenodes.proofs.Nexts.{IsNextPoint-next_point, next_same}
use Rattle.fp_timenodes.proofs.TimelinePoints.{points_at_latest, HaveSamePoints-timeline}
use Rattle.fp_timenodes.proofs.point_table.Points.next.Goals as goal

pub returns-clause-value : goal.returns-clause-value
returns-clause-value c =
    let p = c.self.inside in
    let stamps = c.index-timeline.result.now in
    let points = HaveSamePoints-timeline c.args.self.now p.first.items p.added.items p.timelines.items c.args.terminal c.args.round stamps c.self.invariant c.self.view_is c.requires c.index-timeline.ensures in
    c.next.ensures ∙ next_same (points_of stamps c.args.round) (points_at c.args.self.now c.args.terminal c.args.round) c.args.at points

pub returns-clause-least : goal.returns-clause-least
returns-clause-least c =
    let qs = points_at c.args.self.now c.args.terminal c.args.round in
    subst (λ (o : Option ℕ). IsNextPoint qs c.args.at o) (sym (returns-clause-value c)) (IsNextPoint-next_point qs c.args.at)

pub returns-clause-in_time : goal.returns-clause-in_time
returns-clause-in_time c =
    at-some c.next.result (returns-clause-least c)
  where
    at-some : (o : Option ℕ) → IsNextPoint (points_at c.args.self.now c.args.terminal c.args.round) c.args.at o → IfSome o (λ q. q ≤ LATEST)
    at-some None least = tt
    at-some (Some q) least = points_at_latest c.args.self.now c.args.terminal c.args.round q (subst (λ (v : TimePoints). HasValidPoints v) c.self.view_is c.self.invariant.valid) least.0
