use Rattle.std.proofs.Common.{ℕ, ◌*◌, ◌^◌, ◌<◌, List, get_or, subst, arith, le_refl}
use Rattle.fp_model.specs.declared.parts.Shipment.{Shipment}
use Rattle.fp_model.specs.Numbered.{shipment_at}
use Rattle.fp_model.specs.Problem.{Problem}
use Rattle.fp_timetable.specs.declared.lines.LegLine.{LegLine}
use Rattle.fp_timetable.specs.declared.lines.TruckLine.{TruckLine}
use Rattle.fp_timetable.specs.Order.{Adds}
use Rattle.fp_timetable.proofs.MergedLegs.{merged_more, no_leg_line}
use Rattle.fp_timetable.proofs.truck_lines.merged.Goals as goal

pub loop-leg-preserved : goal.loop-leg-preserved
loop-leg-preserved c =
    let p : Problem = c.args.instance.now in
    let legs : List LegLine = c.args.legs.now in
    let i : ℕ = c.loop-leg.leg-index in
    let l : LegLine = get_or legs i no_leg_line in
    let old : List TruckLine = c.loop-leg.lines.items in
    let new : List TruckLine = c.add.new.lines.items in
    let narrow : l.arc < 2 ^ 32 = omega (arith, (c.requires.exist i no_leg_line (omega arith)).0, c.shipment.ensures.valid.parts.few_arcs) in
    let adds : Adds l (shipment_at p l.shipment).size old new =
    subst (λ (s : Shipment). Adds l s.size old new) c.shipment.ensures.same c.in_ok-add.ensures.ok in
    record {
      merged = merged_more p legs i old new (omega arith) c.loop-leg.invariant.merged narrow (c.loop-leg.invariant.before i (le_refl i) (omega arith)) adds;
      before = λ j le lt.
          adds.before (get_or legs j no_leg_line) narrow (c.requires.sorted i j no_leg_line (omega (arith, le)) lt) (c.loop-leg.invariant.before j (omega (arith, le)) lt);
      small = λ k d lt. omega (arith, adds.most (i * 2 ^ 64) c.loop-leg.invariant.small k d lt);
    }
