use Rattle.fp_ends.specs.Deadlines.{has_shown}
use Rattle.fp_model.specs.Problem.{Problem}
use Rattle.fp_certificate_lines.specs.Statements.{Statement}
use Rattle.fp_app_tails.specs.declared.answers.Answered.TheVariants as answered
use Rattle.fp_app_tails.specs.declared.answers.Scale.TheVariants.{Of}
use Rattle.fp_app_tails.specs.Answers.{IsAnswer}
use Rattle.fp_app.specs.declared.shown.Shown.TheVariants as shown
use Rattle.fp_app.specs.Improvements.{ShowsImprove}
use Rattle.fp_app.specs.Searches.{within}
use Rattle.fp_app.specs.Wanted.{Wanted}
use Rattle.fp_app.proofs.TailAnswers.{fault-shown, none-shown, read-noted, read-shown}
use Rattle.fp_app.proofs.commands.improvements.improve_after.Goals as goal

pub returns-in_ok-shown-in-Read-clause-shown : goal.returns-in_ok-shown-in-Read-clause-shown
returns-in_ok-shown-in-Read-clause-shown g c =
    let given : IsAnswer (Of c.args.scale) c.args.place c.args.lines.now (answered.Read c.in-Read.instance c.in-Read.windows c.in-Read.certificate) = rw c.in-Read.is at c.in_ok-instance.ensures.given in
    read-shown (Of c.args.scale) c.args.place c.args.lines.now c.in_ok-shown-in-Read.shown
    (λ (p : Problem) (wanted : Wanted) (d : Statement). ShowsImprove (within c.args.options.budget (has_shown c.args.options.seconds (g.C.Clock.moment c.search_told.new.clock) (g.C.Clock.faults c.args.clock.now) (g.C.Clock.faults c.search_told.new.clock)) c.args.options.spans) p wanted d c.in_ok-shown-in-Read.shown)
    c.in-Read.instance c.in-Read.windows c.in-Read.certificate (λ wanted windows. rw c.in_ok-shown-in-Read.was at (c.search_told.ensures.shown wanted windows)) given

pub returns-in-NoPlan-clause-shown : goal.returns-in-NoPlan-clause-shown
returns-in-NoPlan-clause-shown g c =
    let given : IsAnswer (Of c.args.scale) c.args.place c.args.lines.now answered.NoPlan = rw c.in-NoPlan.is at c.in_ok-instance.ensures.given in
    none-shown (Of c.args.scale) c.args.place c.args.lines.now (λ (p : Problem) (wanted : Wanted) (d : Statement). ShowsImprove (within c.args.options.budget (has_shown c.args.options.seconds (g.C.Clock.moment c.args.clock.now) (g.C.Clock.faults c.args.clock.now) (g.C.Clock.faults c.args.clock.now)) c.args.options.spans) p wanted d (shown.RejectedPart 1)) given

pub returns-in-Fault-clause-shown : goal.returns-in-Fault-clause-shown
returns-in-Fault-clause-shown g c =
    let given : IsAnswer (Of c.args.scale) c.args.place c.args.lines.now (answered.Fault c.in-Fault.ordinal c.in-Fault.code) = rw c.in-Fault.is at c.in_ok-instance.ensures.given in
    fault-shown (Of c.args.scale) c.args.place c.args.lines.now (λ (p : Problem) (wanted : Wanted) (d : Statement). ShowsImprove (within c.args.options.budget (has_shown c.args.options.seconds (g.C.Clock.moment c.args.clock.now) (g.C.Clock.faults c.args.clock.now) (g.C.Clock.faults c.args.clock.now)) c.args.options.spans) p wanted d (shown.BadInput c.in-Fault.ordinal c.in-Fault.code)) c.in-Fault.ordinal c.in-Fault.code given

pub returns-in_ok-shown-in-Read-clause-noted : goal.returns-in_ok-shown-in-Read-clause-noted
returns-in_ok-shown-in-Read-clause-noted g c =
    let given : IsAnswer (Of c.args.scale) c.args.place c.args.lines.now (answered.Read c.in-Read.instance c.in-Read.windows c.in-Read.certificate) = rw c.in-Read.is at c.in_ok-instance.ensures.given in
    read-noted (Of c.args.scale) c.args.place c.args.lines.now c.args.options.notes (g.N.Sink.taken c.args.notes.now) (g.N.Sink.taken c.search_told.new.notes) c.in-Read.instance c.in-Read.windows c.in-Read.certificate c.search_told.ensures.noted given

pub returns-in_err-shown-in-Read-clause-noted : goal.returns-in_err-shown-in-Read-clause-noted
returns-in_err-shown-in-Read-clause-noted g c =
    let given : IsAnswer (Of c.args.scale) c.args.place c.args.lines.now (answered.Read c.in-Read.instance c.in-Read.windows c.in-Read.certificate) = rw c.in-Read.is at c.in_ok-instance.ensures.given in
    read-noted (Of c.args.scale) c.args.place c.args.lines.now c.args.options.notes (g.N.Sink.taken c.args.notes.now) (g.N.Sink.taken c.search_told.new.notes) c.in-Read.instance c.in-Read.windows c.in-Read.certificate c.search_told.ensures.noted given
