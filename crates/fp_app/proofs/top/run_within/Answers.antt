use Rattle.std.proofs.Common.{inr, rules, subst, sym, ◌∙◌}
use Rattle.fp_ends.specs.Deadlines.{has_shown}
use Rattle.fp_app_words.specs.TimeLimits.{seconds_of}
use Rattle.fp_app_words.specs.Words.{order_of, texts}
use Rattle.fp_app.specs.Causes.{StatusOf}
use Rattle.fp_app.specs.Runs.{Writes, reach_of}
use Rattle.fp_app.specs.declared.shown.Status.{Status}
use Rattle.fp_app.proofs.InputStatuses.{Answers-StatusOf}
use Rattle.fp_app.proofs.Reaches.{BadWords-None, Writes-Answers}
use Rattle.fp_app.proofs.Rejections.{Rejected-ShowsRejection}
use Rattle.fp_app.proofs.StatusCauses.{BadInput-ShowsFault, Done-ShowsDone, Infeasible-ShowsInfeasible, Unfinished-ShowsOpen}
use Rattle.fp_app.proofs.top.run_within.Goals as goal

pub returns-in-Ok-write_all-clause-bad_input : goal.returns-in-Ok-write_all-clause-bad_input
returns-in-Ok-write_all-clause-bad_input g c = λ input told same.
    BadInput-ShowsFault (has_shown (seconds_of (order_of (texts c.args.words.now))) (g.C.Clock.moment c.answer.new.clock) (g.C.Clock.faults c.args.clock.now) (g.C.Clock.faults c.answer.new.clock)) (order_of (texts c.args.words.now)) input _ _ c.in-Ok.shown told c.in-Ok.ensures.shown (sym c.status.ensures ∙ same)

pub returns-in-Ok-write_all-clause-done : goal.returns-in-Ok-write_all-clause-done
returns-in-Ok-write_all-clause-done g c = λ input told same.
    Done-ShowsDone (has_shown (seconds_of (order_of (texts c.args.words.now))) (g.C.Clock.moment c.answer.new.clock) (g.C.Clock.faults c.args.clock.now) (g.C.Clock.faults c.answer.new.clock)) (order_of (texts c.args.words.now)) input _ _ c.in-Ok.shown told c.in-Ok.ensures.shown (sym c.status.ensures ∙ same)

pub returns-in-Ok-write_all-clause-completes : goal.returns-in-Ok-write_all-clause-completes
returns-in-Ok-write_all-clause-completes g c = λ input told reads writes.
    inr (subst (StatusOf (has_shown (seconds_of (order_of (texts c.args.words.now))) (g.C.Clock.moment c.answer.new.clock) (g.C.Clock.faults c.args.clock.now) (g.C.Clock.faults c.answer.new.clock)) (order_of (texts c.args.words.now)) input) (sym c.status.ensures) (Answers-StatusOf (has_shown (seconds_of (order_of (texts c.args.words.now))) (g.C.Clock.moment c.answer.new.clock) (g.C.Clock.faults c.args.clock.now) (g.C.Clock.faults c.answer.new.clock)) (order_of (texts c.args.words.now)) input _ _ c.in-Ok.shown told c.in-Ok.ensures.shown))

pub returns-in-Ok-write_all-clause-follows : goal.returns-in-Ok-write_all-clause-follows
returns-in-Ok-write_all-clause-follows g c = λ input told sure room.
    inr (subst (StatusOf (has_shown (seconds_of (order_of (texts c.args.words.now))) (g.C.Clock.moment c.answer.new.clock) (g.C.Clock.faults c.args.clock.now) (g.C.Clock.faults c.answer.new.clock)) (order_of (texts c.args.words.now)) input) (sym c.status.ensures) (Answers-StatusOf (has_shown (seconds_of (order_of (texts c.args.words.now))) (g.C.Clock.moment c.answer.new.clock) (g.C.Clock.faults c.args.clock.now) (g.C.Clock.faults c.answer.new.clock)) (order_of (texts c.args.words.now)) input _ _ c.in-Ok.shown told c.in-Ok.ensures.shown))

pub returns-in-Ok-write_all-clause-infeasible : goal.returns-in-Ok-write_all-clause-infeasible
returns-in-Ok-write_all-clause-infeasible g c = λ input told same.
    Infeasible-ShowsInfeasible (has_shown (seconds_of (order_of (texts c.args.words.now))) (g.C.Clock.moment c.answer.new.clock) (g.C.Clock.faults c.args.clock.now) (g.C.Clock.faults c.answer.new.clock)) (order_of (texts c.args.words.now)) input _ _ c.in-Ok.shown told c.in-Ok.ensures.shown (sym c.status.ensures ∙ same)

pub returns-in-Ok-write_all-clause-unfinished : goal.returns-in-Ok-write_all-clause-unfinished
returns-in-Ok-write_all-clause-unfinished g c = λ input told same.
    Unfinished-ShowsOpen (has_shown (seconds_of (order_of (texts c.args.words.now))) (g.C.Clock.moment c.answer.new.clock) (g.C.Clock.faults c.args.clock.now) (g.C.Clock.faults c.answer.new.clock)) (order_of (texts c.args.words.now)) input _ _ c.in-Ok.shown told c.in-Ok.ensures.shown (sym c.status.ensures ∙ same)

pub returns-in-Ok-write_all-clause-bad_words : goal.returns-in-Ok-write_all-clause-bad_words
returns-in-Ok-write_all-clause-bad_words g c = λ same. BadWords-None (has_shown (seconds_of (order_of (texts c.args.words.now))) (g.C.Clock.moment c.answer.new.clock) (g.C.Clock.faults c.args.clock.now) (g.C.Clock.faults c.answer.new.clock)) (order_of (texts c.args.words.now)) _ _ c.in-Ok.shown c.in-Ok.ensures.shown (sym c.status.ensures ∙ same)

pub returns-in-Ok-write_all-clause-rejected : goal.returns-in-Ok-write_all-clause-rejected
returns-in-Ok-write_all-clause-rejected g c = λ input told same.
    Rejected-ShowsRejection (has_shown (seconds_of (order_of (texts c.args.words.now))) (g.C.Clock.moment c.answer.new.clock) (g.C.Clock.faults c.args.clock.now) (g.C.Clock.faults c.answer.new.clock)) (order_of (texts c.args.words.now)) input _ _ c.in-Ok.shown told c.in-Ok.ensures.shown (sym c.status.ensures ∙ same)

pub returns-in-Ok-write_all-clause-writes : goal.returns-in-Ok-write_all-clause-writes
returns-in-Ok-write_all-clause-writes g c =
    subst (λ (t : Status). Writes g.K.Sink.taken (reach_of t) c.args.sink.now c.write_all.new.sink c.in-Ok.shown) (sym c.status.ensures)
    (Writes-Answers (has_shown (seconds_of (order_of (texts c.args.words.now))) (g.C.Clock.moment c.answer.new.clock) (g.C.Clock.faults c.args.clock.now) (g.C.Clock.faults c.answer.new.clock)) g.K.Sink.taken (order_of (texts c.args.words.now)) _ _ c.args.sink.now c.write_all.new.sink c.in-Ok.shown c.in-Ok-text.text.items c.in-Ok.ensures.shown (search rules) (search rules))
