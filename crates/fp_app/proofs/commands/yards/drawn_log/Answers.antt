use Rattle.std.proofs.Common.{◌≡◌, ◌∙◌, List, sym, subst}
use Rattle.fp_yard.specs.declared.events.Event.{Event}
use Rattle.fp_yard.specs.Schedules.{HasEnds, IsPlanSchedule, Schedule}
use Rattle.fp_app.specs.Yards.{IsDrawnLog}
use Rattle.fp_app.proofs.DrawnLogs.{IsDrawnLog-run}
use Rattle.fp_app.proofs.commands.yards.drawn_log.Goals as goal

pub returns : goal.returns
returns c =
    let p = c.args.instance.now in
    let plan = c.args.plan.now in
    let s : Schedule = c.in_ok-run.run'.schedule in
    let h : List Event = c.in_ok-run.run'.history in
    let same : c.in_ok-log.log.items ≡ h = c.in_ok-log.ensures.items_if_clones_equal (λ x y e. e) ∙ c.history.ensures.events in
    subst (λ (log : List Event). IsDrawnLog p plan c.args.seed log) (sym same)
    (IsDrawnLog-run p plan c.args.seed s h
    (subst (λ (t : Schedule). IsPlanSchedule p plan t) (sym c.in_ok-run.ensures.schedule) c.in_ok-yard.ensures.schedule)
    c.lines-count.ensures.sound
    (subst (λ (t : Schedule). HasEnds p t) (sym c.in_ok-run.ensures.schedule) c.in_ok-yard.ensures.ends)
    c.lines-count.ensures.legal
    c.in_ok-run.ensures.chosen
    c.in_ok-run.ensures.ended)
