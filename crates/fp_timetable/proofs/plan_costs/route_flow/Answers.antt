use Rattle.std.proofs.Common.{◌≡◌, ℕ, ◌<◌, ◌*◌, length, get_or, ap, ap₂, ◌∙◌, arith}
use Rattle.std.proofs.lemmas.List.Sums.{sum_by_more_le}
use Rattle.fp_model.specs.declared.parts.Arc.{Arc}
use Rattle.fp_model.specs.declared.parts.Leg.{Leg}
use Rattle.fp_model.specs.Numbered.{no_leg}
use Rattle.fp_model.specs.Problem.{arc_at}
use Rattle.fp_timetable.proofs.plan_costs.route_flow.Goals as goal

pub overflow_add-total : goal.overflow_add-total
overflow_add-total c =
    let p = c.args.instance.now in
    let leg : Leg = get_or c.args.route.now c.loop-leg.leg-index no_leg in
    let flow : Leg → ℕ = λ k. (arc_at p k.arc).freight * c.args.size in
    let lt : c.loop-leg.leg-index < length c.args.route.now = omega arith in
    let one : c.from.result * c.from-in-loop-leg.result ≡ flow leg =
    ap₂ (λ (m n : ℕ). m * n) (c.from.ensures ∙ ap (λ (a : Arc). a.freight) c.arc.ensures.same) c.from-in-loop-leg.ensures in
    omega (arith, one, c.loop-leg.invariant, sum_by_more_le flow c.args.route.now c.loop-leg.leg-index no_leg lt, c.requires.fits)
