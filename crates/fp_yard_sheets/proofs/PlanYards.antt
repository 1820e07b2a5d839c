-- The schedule of a plan is one over its truck lines, with its routes.
use Rattle.std.proofs.Common.{◌≡◌, ◌∙◌, ℕ, List, length, ap, subst}
use Rattle.std.specs.Prelude.{All}
use Rattle.std.proofs.lemmas.List.{length-map}
use Rattle.fp_model.specs.declared.parts.Leg.{Leg}
use Rattle.fp_model.specs.Plans.{IsPlan}
use Rattle.fp_model.specs.Problem.{IsValid, Problem, arc_at}
use Rattle.fp_timetable.specs.declared.lines.TruckLine.{TruckLine}
use Rattle.fp_timetable.specs.Lines.{AreTruckLines, TruckExists}
use Rattle.fp_timetable.proofs.DepartureLines.{AreTruckLines-unique}
use Rattle.fp_yard.specs.Schedules.{IsPlanSchedule, IsScheduleOf, Schedule}
use Rattle.fp_yard.proofs.PlanSchedules.{IsSound-plan, few-lines, many-journeys}
use Rattle.fp_yard_sheets.specs.Freight.{IsOver, routes_of}

-- the schedule is over the lines that a plan has
own-lines : (p : Problem) (plan : List (List Leg)) (lines : List TruckLine) (s : Schedule) → AreTruckLines p plan lines → IsPlanSchedule p plan s → IsScheduleOf p plan lines s
own-lines p plan lines s are is = subst (λ (ls : List TruckLine). IsScheduleOf p plan ls s) (AreTruckLines-unique p plan is.0 lines is.1 are) is.2

pub IsOver-plan : (p : Problem) (plan : List (List Leg)) (lines : List TruckLine) (s : Schedule) → IsValid p → IsPlan p 1 plan → AreTruckLines p plan lines → All (TruckExists p) lines →
    IsPlanSchedule p plan s → IsOver p lines s
IsOver-plan p plan lines s valid is are exist schedule =
    let of : IsScheduleOf p plan lines s = own-lines p plan lines s are schedule in
    record {
      order = are.ascending;
      few = few-lines p plan lines valid is are exist;
      sound = IsSound-plan p plan lines s valid is are of;
      tails = ap (λ (ts : List ℕ). length ts) of.tails ∙ length-map lines (λ (t : TruckLine). (arc_at p t.arc).from);
      journeys = many-journeys p plan lines s.journeys is of.legs;
    }

pub routes_of-plan : (p : Problem) (plan : List (List Leg)) (lines : List TruckLine) (s : Schedule) → AreTruckLines p plan lines → IsPlanSchedule p plan s → routes_of lines s ≡ plan
routes_of-plan p plan lines s are schedule = (own-lines p plan lines s are schedule).legs
