use Rattle.std.proofs.Common.{◌<◌, ◌^◌, List, sym, subst, ◌∙◌}
use Rattle.std.specs.Prelude.{IsTrue}
use Rattle.std.proofs.lemmas.Result.{IfOk-weaker}
use Rattle.fp_model.specs.Problem.{Problem}
use Rattle.fp_timetable.specs.declared.lines.TruckLine.{TruckLine}
use Rattle.fp_timetable.specs.Lines.{AreTruckLines}
use Rattle.fp_timetable.proofs.DepartureLines.{AreTruckLines-unique}
use Rattle.fp_fleet.specs.Fleets.{IsAccepted}
use Rattle.fp_fleet.specs.Rosters.{NoRosterSmaller, truck_total}
use Rattle.fp_fleet.proofs.LineBounds.{trucks-fit}
use Rattle.fp_fleet.proofs.SmallestRosters.{NoRosterSmaller-deficits}
use Rattle.fp_fleet.proofs.acceptance.accepts.Goals as goal

pub accepts_lines-requires-clause-fits : goal.accepts_lines-requires-clause-fits
accepts_lines-requires-clause-fits c =
    subst (λ (lines : List TruckLine). truck_total lines < 2 ^ 128) (sym c.as_slice.ensures.value)
    (trucks-fit c.args.instance.now c.args.plan.now c.in_ok-lines.lines.items c.arcs-known.ensures.valid c.requires c.in_ok-lines.ensures.exist c.in_ok-lines.ensures.lines)

pub returns-clause-exact : goal.returns-clause-exact
returns-clause-exact c =
    let p : Problem = c.args.instance.now in
    IfOk-weaker c.accepts_lines.result
    (λ yes. (IsTrue yes → IsAccepted p c.as_slice.result.now c.args.fleet.now) × (IsAccepted p c.as_slice.result.now c.args.fleet.now → IsTrue yes))
    (λ yes. (lines : List TruckLine) → AreTruckLines p c.args.plan.now lines → (IsTrue yes → IsAccepted p lines c.args.fleet.now) × (IsAccepted p lines c.args.fleet.now → IsTrue yes))
    (λ yes iff lines are.
    subst (λ (ls : List TruckLine). (IsTrue yes → IsAccepted p ls c.args.fleet.now) × (IsAccepted p ls c.args.fleet.now → IsTrue yes))
    (c.as_slice.ensures.value ∙ AreTruckLines-unique p c.args.plan.now c.in_ok-lines.lines.items lines c.in_ok-lines.ensures.lines are) iff)
    c.accepts_lines.ensures

pub returns-clause-fewest : goal.returns-clause-fewest
returns-clause-fewest c =
    let p : Problem = c.args.instance.now in
    IfOk-weaker c.accepts_lines.result
    (λ yes. (lines : List TruckLine) → AreTruckLines p c.args.plan.now lines → (IsTrue yes → IsAccepted p lines c.args.fleet.now) × (IsAccepted p lines c.args.fleet.now → IsTrue yes))
    (λ yes. IsTrue yes → (lines : List TruckLine) → AreTruckLines p c.args.plan.now lines → NoRosterSmaller p lines c.args.fleet.now.total)
    (λ yes exact told lines are.
    let accepted : IsAccepted p lines c.args.fleet.now = (exact lines are).0 told in
    NoRosterSmaller-deficits p lines c.args.fleet.now.total c.args.fleet.now.needs accepted.needs)
    (returns-clause-exact c)
