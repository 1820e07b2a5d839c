use Rattle.std.proofs.Common.{◌≡◌, List, ℕ, length, sym, subst, ◌∙◌}
use Rattle.std.specs.declared.alloc.Global.{Global}
use Rattle.std.specs.declared.vec.Vec.{Vec}
use Rattle.std.proofs.lemmas.Result.{IfOk-weaker}
use Rattle.fp_model.specs.Problem.{Problem}
use Rattle.fp_records.specs.Text.{lines_of}
use Rattle.fp_timetable.specs.declared.lines.TruckLine.{TruckLine}
use Rattle.fp_timetable.specs.Lines.{AreTruckLines}
use Rattle.fp_timetable.proofs.DepartureLines.{AreTruckLines-unique}
use Rattle.fp_fleet.specs.DayRows.{RunsExist, fleet_day_rows}
use Rattle.fp_fleet.specs.Rows.{IsShowable}
use Rattle.fp_fleet.proofs.day_lines.write_trucks.Goals as goal

pub write_all_lines-requires-clause-showable : goal.write_all_lines-requires-clause-showable
write_all_lines-requires-clause-showable c =
    subst (λ (lines : List TruckLine). IsShowable c.args.instance.now lines c.args.fleet.now) (sym c.as_slice.ensures.value)
    (c.requires.showable c.in_ok-lines.lines.items c.in_ok-lines.ensures.lines)

pub write_all_lines-requires-clause-runs : goal.write_all_lines-requires-clause-runs
write_all_lines-requires-clause-runs c =
    subst (λ (lines : List TruckLine). RunsExist (length lines) c.args.told.now) (sym c.as_slice.ensures.value)
    (c.requires.runs c.in_ok-lines.lines.items c.in_ok-lines.ensures.lines)

pub returns : goal.returns
returns c =
    let p : Problem = c.args.instance.now in
    IfOk-weaker c.write_all_lines.result
    (λ (text : Vec ℕ Global). text.items ≡ lines_of (fleet_day_rows p c.as_slice.result.now c.args.fleet.now c.args.told.now))
    (λ (text : Vec ℕ Global). (lines : List TruckLine) → AreTruckLines p c.args.plan.now lines → text.items ≡ lines_of (fleet_day_rows p lines c.args.fleet.now c.args.told.now))
    (λ text is lines are.
    subst (λ (ls : List TruckLine). text.items ≡ lines_of (fleet_day_rows p ls c.args.fleet.now c.args.told.now))
    (c.as_slice.ensures.value ∙ AreTruckLines-unique p c.args.plan.now c.in_ok-lines.lines.items lines c.in_ok-lines.ensures.lines are) is)
    c.write_all_lines.ensures
