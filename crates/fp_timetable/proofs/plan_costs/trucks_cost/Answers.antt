use Rattle.std.proofs.Common.{◌≡◌, ◌<◌, ◌*◌, length, get_or, ap, ◌∙◌, arith}
use Rattle.std.proofs.lemmas.List.Sums.{sum_by_more_le}
use Rattle.fp_model.specs.declared.parts.Arc.{Arc}
use Rattle.fp_timetable.specs.declared.lines.TruckLine.{TruckLine}
use Rattle.fp_timetable.specs.Lines.{line_cost}
use Rattle.fp_timetable.specs.Order.{no_line}
use Rattle.fp_timetable.proofs.plan_costs.trucks_cost.Goals as goal

pub overflow_add-total : goal.overflow_add-total
overflow_add-total c =
    let p = c.args.instance.now in
    let line : TruckLine = get_or c.args.lines.now c.loop-line.line-index no_line in
    let lt : c.loop-line.line-index < length c.args.lines.now = omega arith in
    let one : c.from.result * line.trucks ≡ line_cost p line = ap (λ n. n * line.trucks) (c.from.ensures ∙ ap (λ (a : Arc). a.truck) c.arc.ensures.same) in
    omega (arith, one, c.loop-line.invariant, sum_by_more_le (line_cost p) c.args.lines.now c.loop-line.line-index no_line lt, c.requires.fits)
