use Rattle.std.proofs.Common.{◌≡◌, ℕ, ap, ◌∙◌, get_or, set, arith}
use Rattle.std.specs.Int.{div_ceil}
use Rattle.fp_model.specs.declared.parts.Arc.{Arc}
use Rattle.fp_timetable.specs.declared.lines.TruckLine.{TruckLine}
use Rattle.fp_timetable.specs.Order.{no_line, with_trucks}
use Rattle.fp_timetable.proofs.AddedLegs.{set-more}
use Rattle.fp_timetable.proofs.truck_lines.set_trucks.Goals as goal

pub loop-line-preserved : goal.loop-line-preserved
loop-line-preserved c =
    let t : TruckLine = get_or c.loop-line.lines c.loop-line.line-index no_line in
    let capacity = c.from.ensures ∙ ap (λ (a : Arc). a.capacity) c.arc-capacity.ensures.same in
    let trucks : c.div_ceil-line.result ≡ (with_trucks c.args.instance.now t).trucks = c.div_ceil-line.ensures ∙ ap (λ (n : ℕ). div_ceil t.load n) capacity in
    ap (λ (n : ℕ). set c.loop-line.lines c.loop-line.line-index (record t { trucks = n })) trucks
    ∙ set-more c.args.instance.now c.args.lines.now c.loop-line.lines c.loop-line.line-index (omega arith) (omega arith) c.loop-line.invariant
