use Rattle.std.proofs.Common.{◌≡◌, ◌<◌, ◌≤◌, ◌^◌, List, sym, subst, ◌∙◌, arith}
use Rattle.fp_timetable.specs.declared.lines.TruckLine.{TruckLine}
use Rattle.fp_timetable.proofs.DepartureLines.{AreTruckLines-unique}
use Rattle.fp_fleet.specs.declared.days.TheConstants.{MOST_RUNS}
use Rattle.fp_fleet.specs.Queues.{IsGiven}
use Rattle.fp_fleet.specs.Rosters.{truck_total}
use Rattle.fp_fleet.specs.TruckDays.{AreTruckDays}
use Rattle.fp_fleet.proofs.DayTexts.{RunExists-days}
use Rattle.fp_fleet.proofs.GivenTrucks.{IsGiven-plan}
use Rattle.fp_fleet.proofs.LineBounds.{trucks-fit}
use Rattle.fp_fleet.proofs.single_trucks.truck_days.Goals as goal

pub total_of-requires : goal.total_of-requires
total_of-requires c =
    subst (λ (lines : List TruckLine). truck_total lines < 2 ^ 128) (sym c.as_slice.ensures.value)
    (trucks-fit c.args.instance.now c.args.plan.now c.in_ok-lines.lines.items c.arcs-known.ensures.valid c.requires.plan c.in_ok-lines.ensures.exist c.in_ok-lines.ensures.lines)

pub returns-then-total_of-from-clause-told : goal.returns-then-total_of-from-clause-told
returns-then-total_of-from-clause-told c = λ lines are.
    subst (λ (ls : List TruckLine). MOST_RUNS < truck_total ls)
    (c.as_slice.ensures.value ∙ AreTruckLines-unique c.args.instance.now c.args.plan.now c.in_ok-lines.lines.items lines c.in_ok-lines.ensures.lines are) (omega arith)

pub days_of-requires : goal.days_of-requires
days_of-requires c =
    subst (λ (lines : List TruckLine). IsGiven c.args.instance.now lines c.args.fleet.now) (sym c.as_slice-2.ensures.value)
    (IsGiven-plan c.args.instance.now c.args.plan.now c.in_ok-lines.lines.items c.args.fleet.now c.arcs-known.ensures.valid c.requires.plan c.in_ok-lines.ensures.exist c.in_ok-lines.ensures.lines
    (few c.as_slice.result.now c.in_ok-lines.lines.items c.as_slice.ensures.value (omega arith)) (c.requires.accepted c.in_ok-lines.lines.items c.in_ok-lines.ensures.lines))
  where
    few : (ls lines : List TruckLine) → ls ≡ lines → truck_total ls ≤ MOST_RUNS → truck_total lines ≤ MOST_RUNS
    few ls lines is le = subst (λ (xs : List TruckLine). truck_total xs ≤ MOST_RUNS) is le

pub returns-clause-told : goal.returns-clause-told
returns-clause-told c = λ lines are.
    let same : c.in_ok-lines.lines.items ≡ lines = AreTruckLines-unique c.args.instance.now c.args.plan.now c.in_ok-lines.lines.items lines c.in_ok-lines.ensures.lines are in (
      subst (λ (ls : List TruckLine). truck_total ls ≤ MOST_RUNS) (c.as_slice.ensures.value ∙ same) (omega arith),
      subst (λ (ls : List TruckLine). AreTruckDays c.args.instance.now ls c.args.fleet.now c.in_ok-days_of.field-0) (c.as_slice-2.ensures.value ∙ same) c.in_ok-days_of.ensures,
    )

pub returns-clause-exist : goal.returns-clause-exist
returns-clause-exist c = λ lines are.
    let told : (truck_total lines ≤ MOST_RUNS) × AreTruckDays c.args.instance.now lines c.args.fleet.now c.in_ok-days_of.field-0 = returns-clause-told c lines are in
    RunExists-days c.args.instance.now lines c.in_ok-days_of.field-0 told.1.each
