use Rattle.std.proofs.Common.{ℕ, List, subst, sym}
use Rattle.std.specs.declared.alloc.Global.{Global}
use Rattle.std.specs.declared.vec.Vec.{Vec}
use Rattle.std.proofs.lemmas.Result.{IfOk-weaker}
use Rattle.fp_model.specs.declared.parts.Leg.{Leg}
use Rattle.fp_model.specs.Problem.{Problem}
use Rattle.fp_timetable.specs.declared.lines.TruckLine.{TruckLine}
use Rattle.fp_timetable.specs.Lines.{AreTruckLines}
use Rattle.fp_yard.specs.declared.events.Event.{Event}
use Rattle.fp_yard_sheets.specs.Rows.{EventsExist, IsYardText}
use Rattle.fp_app.specs.declared.shown.Shown.{Shown}
use Rattle.fp_app.specs.declared.shown.Shown.TheVariants as shown
use Rattle.fp_app.specs.Shown.{IsPrintable}
use Rattle.fp_app.specs.Texts.{IsText}
use Rattle.fp_app.proofs.texts.text.Goals as goal

pub write-requires-in-Fleet-clause-showable : goal.write-requires-in-Fleet-clause-showable
write-requires-in-Fleet-clause-showable c =
    let printable : IsPrintable (shown.Fleet c.in-Fleet.instance c.in-Fleet.plan c.in-Fleet.fleet) = subst IsPrintable c.in-Fleet.is c.requires in
    printable.1

pub write_trucks-requires-clause-showable : goal.write_trucks-requires-clause-showable
write_trucks-requires-clause-showable c =
    let printable : IsPrintable (shown.Trucks c.in-Trucks.instance c.in-Trucks.plan c.in-Trucks.fleet c.in-Trucks.told) = subst IsPrintable c.in-Trucks.is c.requires in
    printable.1

pub write_trucks-requires-clause-runs : goal.write_trucks-requires-clause-runs
write_trucks-requires-clause-runs c =
    let printable : IsPrintable (shown.Trucks c.in-Trucks.instance c.in-Trucks.plan c.in-Trucks.fleet c.in-Trucks.told) = subst IsPrintable c.in-Trucks.is c.requires in
    printable.2

pub write-requires-in-Yard-clause-log : goal.write-requires-in-Yard-clause-log
write-requires-in-Yard-clause-log c =
    let printable : IsPrintable (shown.Yard c.in-Yard.instance c.in-Yard.plan c.in-Yard.log) = subst IsPrintable c.in-Yard.is c.requires in
    subst (λ (log : List Event). (lines : List TruckLine) → AreTruckLines c.in-Yard.instance c.in-Yard.plan lines → EventsExist lines log) (sym c.as_slice.ensures.value) printable.1

pub returns-in-Yard : goal.returns-in-Yard
returns-in-Yard c =
    let p : Problem = c.in-Yard.instance in
    let plan : List (List Leg) = c.in-Yard.plan in
    IfOk-weaker c.write-in-Yard.result
    (λ (text : Vec ℕ Global). (lines : List TruckLine) → AreTruckLines p plan lines → IsYardText p plan lines c.as_slice.result.now text.items)
    (λ (text : Vec ℕ Global). IsText c.args.shown.now text.items)
    (λ text is.
    subst (λ (s : Shown). IsText s text.items) (sym c.in-Yard.is)
    (subst (λ (log : List Event). (lines : List TruckLine) → AreTruckLines p plan lines → IsYardText p plan lines log text.items) c.as_slice.ensures.value is))
    c.write-in-Yard.ensures
