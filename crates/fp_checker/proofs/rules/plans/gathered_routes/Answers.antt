use Rattle.std.proofs.Common.{◌∙◌, arith}
use Rattle.std.proofs.lemmas.List.{length-set}
use Rattle.fp_timetable.specs.declared.lines.LegLine.{LegLine}
use Rattle.fp_checker.proofs.RoutesOfLines.{gathered-more}
use Rattle.fp_checker.proofs.rules.plans.gathered_routes.Goals as goal

pub loop-line-preserved : goal.loop-line-preserved
loop-line-preserved c =
    let none : LegLine = record { shipment = 0; arc = 0; depart = 0; arrive = 0 } in
    record {
      long = length-set c.loop-line.routes.items _ c.push.new.self ∙ c.loop-line.invariant.long;
      each = λ k lt.
          gathered-more c.loop-line.routes.items c.index_mut-route.result.now c.push.new.self c.args.legs.now c.loop-line.line-index none (omega arith)
          (omega (arith, c.requires c.loop-line.line-index none (omega arith), c.loop-line.invariant.long)) c.index_mut-route.ensures.value c.in_ok-push.ensures.items
          (λ j less. c.loop-line.invariant.each j (omega (arith, less, c.loop-line.invariant.long))) k (omega (arith, lt, c.loop-line.invariant.long));
    }
