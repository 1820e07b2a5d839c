-- What is known of a log that draws choose, once no event is allowed any more.
use Rattle.std.proofs.Common.{◌≡◌, ◌∙◌, ℕ, ◌<◌, true, List, length, ap, subst}
use Rattle.std.specs.Prelude.{All}
use Rattle.fp_model.specs.declared.parts.Leg.{Leg}
use Rattle.std.proofs.lemmas.List.{length-map}
use Rattle.fp_model.specs.Problem.{Problem, arc_at}
use Rattle.fp_model.specs.Plans.{IsPlan}
use Rattle.fp_timetable.specs.declared.lines.TruckLine.{TruckLine}
use Rattle.fp_timetable.specs.Lines.{AreTruckLines}
use Rattle.fp_timetable.proofs.DepartureLines.{AreTruckLines-unique}
use Rattle.fp_yard.specs.declared.events.Event.{Event}
use Rattle.fp_yard.specs.declared.events.LineStage.TheVariants.{Done}
use Rattle.fp_yard.specs.Choices.{IsChosen}
use Rattle.fp_yard.specs.Events.{IsAllowed, IsLegal, arrived}
use Rattle.fp_yard.specs.Schedules.{HasEnds, IsPlanSchedule, IsSound, Schedule}
use Rattle.fp_yard.proofs.Departures.{stage-means}
use Rattle.fp_yard.proofs.Histories.{arrived-departed}
use Rattle.fp_yard.proofs.WholeRuns.{all-done, all-exist}
use Rattle.fp_yard_sheets.specs.Rows.{EventsExist}
use Rattle.fp_app.specs.Yards.{IsDrawnLog}

-- the events of a legal history are of truck lines of the plan
pub EventsExist-legal : (p : Problem) (plan : List (List Leg)) (s : Schedule) (h : List Event) → IsPlanSchedule p plan s → IsLegal s h →
    (lines : List TruckLine) → AreTruckLines p plan lines → EventsExist lines h
EventsExist-legal p plan s h is legal lines are =
    let own : List TruckLine = is.0 in
    let same : own ≡ lines = AreTruckLines-unique p plan own lines is.1 are in
    let long : length s.tails ≡ length lines =
    ap (λ (xs : List ℕ). length xs) is.2.tails ∙ length-map own (λ (t : TruckLine). (arc_at p t.arc).from) ∙ ap (λ (ls : List TruckLine). length ls) same in
    subst (λ (n : ℕ). All (λ (e : Event). e.line < n) h) long (all-exist s h legal)

-- a run to its end is the log that draws choose
pub IsDrawnLog-run : (p : Problem) (plan : List (List Leg)) (seed : ℕ) (s : Schedule) (h : List Event) → IsPlanSchedule p plan s → IsSound s → HasEnds p s → IsLegal s h → IsChosen s seed h →
    ((e : Event) → IsAllowed s h e → ⊥) → IsDrawnLog p plan seed h
IsDrawnLog-run p plan seed s h is sound ends legal chosen ended = record {
  schedule = s;
  is = is;
  sound = sound;
  ends = ends;
  legal = legal;
  chosen = chosen;
  each = λ line lt. let come : arrived h line ≡ true = stage-means h line Done (all-done s h line sound ended lt) in (arrived-departed s h line legal come, come);
}

-- a plan with such a log can be printed
pub IsPrintable-drawn : (p : Problem) (plan : List (List Leg)) (seed : ℕ) (log : List Event) → IsPlan p 1 plan → IsDrawnLog p plan seed log →
    IsPlan p 1 plan × ((lines : List TruckLine) → AreTruckLines p plan lines → EventsExist lines log)
IsPrintable-drawn p plan seed log is drawn =
    (is, EventsExist-legal p plan drawn.schedule log drawn.is drawn.legal)
