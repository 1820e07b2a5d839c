use Rattle.std.proofs.Common.{List, sym, subst, ◌∙◌}
use Rattle.std.proofs.lemmas.Result.{IfOk-weaker}
use Rattle.fp_model.specs.Problem.{Problem}
use Rattle.fp_timetable.specs.declared.lines.TruckLine.{TruckLine}
use Rattle.fp_timetable.specs.Lines.{AreTruckLines}
use Rattle.fp_timetable.proofs.DepartureLines.{AreTruckLines-unique}
use Rattle.fp_timetable.proofs.ExistingLines.{TruckExists-plan}
use Rattle.fp_fleet.specs.Fleets.{Assignment, IsFewest}
use Rattle.fp_fleet.specs.Rows.{IsShowable}
use Rattle.fp_fleet.specs.Sweeps.{IsTimetable}
use Rattle.fp_fleet.proofs.FewestFleets.{IsShowable-accepted}
use Rattle.fp_fleet.proofs.LineBounds.{IsTimetable-plan}
use Rattle.fp_fleet.proofs.fewest_trucks.fewest.Goals as goal

pub fewest_of-requires : goal.fewest_of-requires
fewest_of-requires c =
    subst (IsTimetable c.args.instance.now) (sym c.as_slice.ensures.value)
    (IsTimetable-plan c.args.instance.now c.args.plan.now c.in_ok-lines.lines.items c.arcs-known.ensures.valid c.requires c.in_ok-lines.ensures.exist c.in_ok-lines.ensures.lines)

pub returns-clause-fewest : goal.returns-clause-fewest
returns-clause-fewest c =
    let p : Problem = c.args.instance.now in
    IfOk-weaker c.fewest_of.result
    (λ (fleet : Assignment). IsFewest p c.as_slice.result.now fleet)
    (λ (fleet : Assignment). (lines : List TruckLine) → AreTruckLines p c.args.plan.now lines → IsFewest p lines fleet)
    (λ fleet is lines are.
    subst (λ (ls : List TruckLine). IsFewest p ls fleet)
    (c.as_slice.ensures.value ∙ AreTruckLines-unique p c.args.plan.now c.in_ok-lines.lines.items lines c.in_ok-lines.ensures.lines are) is)
    c.fewest_of.ensures

pub returns-clause-showable : goal.returns-clause-showable
returns-clause-showable c =
    let p : Problem = c.args.instance.now in
    IfOk-weaker c.fewest_of.result
    (λ (fleet : Assignment). (lines : List TruckLine) → AreTruckLines p c.args.plan.now lines → IsFewest p lines fleet)
    (λ (fleet : Assignment). (lines : List TruckLine) → AreTruckLines p c.args.plan.now lines → IsShowable p lines fleet)
    (λ fleet few lines are.
    let fewest : IsFewest p lines fleet = few lines are in
    IsShowable-accepted p lines fleet c.arcs-known.ensures.valid (TruckExists-plan p c.args.plan.now lines c.arcs-known.ensures.valid c.requires are) fewest.accepted)
    (returns-clause-fewest c)
