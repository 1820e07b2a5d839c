use Rattle.std.proofs.Common.{◌<◌, length, take_all, sym, ap, ◌∙◌, arith}
use Rattle.std.specs.Prelude.{sum_by}
use Rattle.std.proofs.lemmas.List.Sums.{sum_by_more_le}
use Rattle.fp_base_lists.proofs.SumsBelow.{sum_below-places}
use Rattle.fp_timetable.specs.declared.lines.TruckLine.{TruckLine}
use Rattle.fp_timetable.specs.Order.{no_line}
use Rattle.fp_fleet.proofs.single_trucks.total_of.Goals as goal

pub overflow_add-total : goal.overflow_add-total
overflow_add-total c =
    let lt : c.loop-line.line-index < length c.args.lines.now = omega arith in
    omega (
      arith,
      sum_by_more_le (λ (t : TruckLine). t.trucks) c.args.lines.now c.loop-line.line-index no_line lt,
      sum_below-places (λ (t : TruckLine). t.trucks) no_line c.args.lines.now,
      c.requires,
    )

pub returns : goal.returns
returns c =
    c.loop-line.invariant
    ∙ ap (sum_by (λ (t : TruckLine). t.trucks)) (take_all c.loop-line.line-index c.args.lines.now (omega arith))
    ∙ sym (sum_below-places (λ (t : TruckLine). t.trucks) no_line c.args.lines.now)
