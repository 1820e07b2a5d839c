use Rattle.std.proofs.Common.{List, map, refl, sym, ap, ◌∙◌, subst, arith, length, ◌≡◌}
use Rattle.std.proofs.Math.ListN.{length-map}
use Rattle.fp_timetable.specs.declared.lines.LegLine.{LegLine}
use Rattle.fp_timetable.specs.declared.lines.TruckLine.{TruckLine}
use Rattle.fp_timetable.specs.Lines.{AreTruckLines}
use Rattle.fp_timetable.specs.Order.{AreMerged, with_trucks}
use Rattle.fp_timetable.proofs.ExistingLines.{TruckExists-plan}
use Rattle.fp_timetable.proofs.OrderedLines.{AreGathered, AreTruckLines-gathered, gathered-plan, whole}
use Rattle.fp_timetable.proofs.truck_lines.trucks.Goals as goal

pub set_trucks-requires : goal.set_trucks-requires
set_trucks-requires c =
    let lines : List TruckLine = c.in_ok-lines.lines.items in
    let merged : AreMerged c.args.instance.now c.in_ok-legs.legs.items lines =
    subst (λ (legs : List LegLine). AreMerged c.args.instance.now legs lines) c.as_slice.ensures.value c.in_ok-lines.ensures in
    rw c.as_mut_slice.ensures.value
    (gathered-plan c.args.instance.now c.args.plan.now c.in_ok-legs.legs.items lines c.in_ok-legs.ensures.valid c.requires c.in_ok-legs.ensures.moved merged).arcs

pub returns-clause-lines : goal.returns-clause-lines
returns-clause-lines c =
    let lines : List TruckLine = c.in_ok-lines.lines.items in
    let merged : AreMerged c.args.instance.now c.in_ok-legs.legs.items lines =
    subst (λ (legs : List LegLine). AreMerged c.args.instance.now legs lines) c.as_slice.ensures.value c.in_ok-lines.ensures in
    let gathered : AreGathered c.args.instance.now c.args.plan.now lines =
    gathered-plan c.args.instance.now c.args.plan.now c.in_ok-legs.legs.items lines c.in_ok-legs.ensures.valid c.requires c.in_ok-legs.ensures.moved merged in
    let set : c.set_trucks.new.lines ≡ map (with_trucks c.args.instance.now) lines =
    c.set_trucks.ensures ∙ ap (map (with_trucks c.args.instance.now)) c.as_mut_slice.ensures.value in
    let all : AreTruckLines c.args.instance.now c.args.plan.now c.set_trucks.new.lines =
    subst (λ (xs : List TruckLine). AreTruckLines c.args.instance.now c.args.plan.now xs) (sym set)
    (AreTruckLines-gathered c.args.instance.now c.args.plan.now lines c.in_ok-legs.ensures.valid.parts.few_arcs gathered) in
    let long : length (map (with_trucks c.args.instance.now) lines) ≡ length lines = rw length-map refl in
    subst (λ (xs : List TruckLine). AreTruckLines c.args.instance.now c.args.plan.now xs)
    (sym (whole c.in_ok-lines.lines.len c.set_trucks.new.lines lines (ap length set ∙ long) (omega (arith, c.in_ok-lines.lines.ok))))
    all

pub returns-clause-exist : goal.returns-clause-exist
returns-clause-exist c =
    TruckExists-plan c.args.instance.now c.args.plan.now _ c.in_ok-legs.ensures.valid c.requires (returns-clause-lines c)
