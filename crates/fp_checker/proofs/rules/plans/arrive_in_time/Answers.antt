use Rattle.std.proofs.Common.{◌≡◌, ◌+◌, refl, ap, subst, arith}
use Rattle.std.specs.Prelude.{All}
use Rattle.std.proofs.lemmas.List.{take_all}
use Rattle.std.proofs.lemmas.List.Elements.{All-more}
use Rattle.fp_model.specs.declared.parts.Arc.{Arc}
use Rattle.fp_model.specs.Problem.{arc_at}
use Rattle.fp_timetable.specs.declared.lines.LegLine.{LegLine}
use Rattle.fp_checker.proofs.rules.plans.arrive_in_time.Goals as goal

pub loop-leg-preserved : goal.loop-leg-preserved
loop-leg-preserved c =
    let p = c.args.instance.now in
    let none : LegLine = record { shipment = 0; arc = 0; depart = 0; arrive = 0 } in
    All-more (λ (l : LegLine). l.arrive ≡ l.depart + (arc_at p l.arc).time) c.args.legs.now c.loop-leg.leg-index none (omega arith) c.loop-leg.invariant
    (omega (arith, c.from.ensures, c.if-from.false, c.from-in-loop-leg.ensures, c.from-in-loop-leg-2.ensures, ap (λ (a : Arc). a.time) c.arc-time.ensures.same))

pub returns : goal.returns
returns c =
    let p = c.args.instance.now in
    (λ _. subst (All (λ (l : LegLine). l.arrive ≡ l.depart + (arc_at p l.arc).time)) (take_all c.loop-leg.leg-index c.args.legs.now (omega arith)) c.loop-leg.invariant, λ _. refl)
