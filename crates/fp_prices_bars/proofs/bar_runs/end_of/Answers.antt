use Rattle.std.proofs.Common.{◌≡◌, ℕ, ◌<◌, ◌≤◌, List, length, get_or, refl, sym, subst, arith}
use Rattle.fp_base_lists.specs.Ascending.{IsCut}
use Rattle.fp_longestarcs.specs.Networks.{points_in}
use Rattle.fp_longestarcs.proofs.NewPoints.{points-of}
use Rattle.fp_prices_bars.specs.BarRuns.{EndsClass}
use Rattle.fp_prices_bars.proofs.ClassEnds.{ends-at_next, ends-with_time}
use Rattle.fp_prices_bars.proofs.bar_runs.end_of.Goals as goal

pub returns-then-next-points : goal.returns-then-next-points
returns-then-next-points c =
    let qs : List ℕ = points_in c.args.network.now c.args.terminal in
    let next : ℕ = c.count_until-next.result in
    let same : c.points-points.result.now ≡ qs = c.points-points.ensures.same in
    let cut : IsCut qs c.args.point next = subst (λ (l : List ℕ). IsCut l c.args.point next) same c.count_until-next.ensures in
    subst (λ (l : List ℕ). EndsClass qs c.args.point (get_or l next 0)) (sym same)
    (ends-at_next qs (points-of c.args.network.now c.args.terminal c.points-points.ensures.valid c.requires.terminal) c.args.point next c.requires.point cut (get_or qs next 0)
    (subst (λ (l : List ℕ). next < length l) same (omega (arith, c.if-next-points.true))) refl)

pub returns-else-next-points : goal.returns-else-next-points
returns-else-next-points c =
    let qs : List ℕ = points_in c.args.network.now c.args.terminal in
    let next : ℕ = c.count_until-next.result in
    let same : c.points-points.result.now ≡ qs = c.points-points.ensures.same in
    let cut : IsCut qs c.args.point next = subst (λ (l : List ℕ). IsCut l c.args.point next) same c.count_until-next.ensures in
    ends-with_time qs (points-of c.args.network.now c.args.terminal c.points-points.ensures.valid c.requires.terminal) c.args.point next c.requires.point cut
    (subst (λ (l : List ℕ). length l ≤ next) same (omega (arith, c.if-next-points.false)))
