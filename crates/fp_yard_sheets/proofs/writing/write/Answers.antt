use Rattle.std.proofs.Common.{List, ℕ, sym, subst}
use Rattle.std.specs.declared.alloc.Global.{Global}
use Rattle.std.specs.declared.vec.Vec.{Vec}
use Rattle.std.proofs.lemmas.Result.{IfOk-weaker}
use Rattle.fp_model.specs.declared.parts.Leg.{Leg}
use Rattle.fp_model.specs.Problem.{Problem}
use Rattle.fp_timetable.specs.declared.lines.TruckLine.{TruckLine}
use Rattle.fp_timetable.specs.Lines.{AreTruckLines}
use Rattle.fp_timetable.proofs.DepartureLines.{AreTruckLines-unique}
use Rattle.fp_yard.specs.Schedules.{Schedule}
use Rattle.fp_yard_sheets.specs.Freight.{IsOver, routes_of}
use Rattle.fp_yard_sheets.specs.Rows.{EventsExist, IsYardText}
use Rattle.fp_yard_sheets.proofs.PlanYards.{IsOver-plan, routes_of-plan}
use Rattle.fp_yard_sheets.proofs.writing.write.Goals as goal

pub write_lines-requires-clause-log : goal.write_lines-requires-clause-log
write_lines-requires-clause-log c =
    subst (λ (lines : List TruckLine). EventsExist lines c.args.log.now) (sym c.as_slice.ensures.value)
    (c.requires.log c.in_ok-lines.lines.items c.in_ok-lines.ensures.lines)

pub write_lines-requires-clause-over : goal.write_lines-requires-clause-over
write_lines-requires-clause-over c =
    subst (λ (lines : List TruckLine). IsOver c.args.instance.now lines c.in_ok-yard.yard.schedule) (sym c.as_slice.ensures.value)
    (IsOver-plan c.args.instance.now c.args.plan.now c.in_ok-lines.lines.items c.in_ok-yard.yard.schedule c.arcs-known.ensures.valid c.requires.plan c.in_ok-lines.ensures.lines
    c.in_ok-lines.ensures.exist c.in_ok-yard.ensures.schedule)

pub returns : goal.returns
returns c =
    let p : Problem = c.args.instance.now in
    let plan : List (List Leg) = c.args.plan.now in
    let s : Schedule = c.in_ok-yard.yard.schedule in
    let own : List TruckLine = c.in_ok-lines.lines.items in
    IfOk-weaker c.write_lines.result
    (λ (text : Vec ℕ Global). IsYardText p (routes_of c.as_slice.result.now s) c.as_slice.result.now c.args.log.now text.items)
    (λ (text : Vec ℕ Global). (lines : List TruckLine) → AreTruckLines p plan lines → IsYardText p plan lines c.args.log.now text.items)
    (λ text is lines are.
    subst (λ (ls : List TruckLine). IsYardText p plan ls c.args.log.now text.items) (AreTruckLines-unique p plan own lines c.in_ok-lines.ensures.lines are)
    (subst (λ (rs : List (List Leg)). IsYardText p rs own c.args.log.now text.items) (routes_of-plan p plan own s c.in_ok-lines.ensures.lines c.in_ok-yard.ensures.schedule)
    (subst (λ (ls : List TruckLine). IsYardText p (routes_of ls s) ls c.args.log.now text.items) c.as_slice.ensures.value is)))
    c.write_lines.ensures
