use Rattle.fp_model.specs.Problem.{Problem}
use Rattle.fp_certificate_lines.specs.Statements.{Statement}
use Rattle.fp_app_tails.specs.declared.answers.Answered.TheVariants as answered
use Rattle.fp_app_tails.specs.declared.answers.Scale.TheVariants.{Usual}
use Rattle.fp_app_tails.specs.Answers.{IsAnswer}
use Rattle.fp_app.specs.declared.shown.Shown.TheVariants as shown
use Rattle.fp_app.specs.Yards.{ShowsYard}
use Rattle.fp_app.specs.Wanted.{Wanted}
use Rattle.fp_app.proofs.TailAnswers.{fault-shown, none-shown, read-shown}
use Rattle.fp_app.proofs.commands.yards.yard_after.Goals as goal

pub returns-in_ok-shown-in-Read-clause-shown : goal.returns-in_ok-shown-in-Read-clause-shown
returns-in_ok-shown-in-Read-clause-shown c =
    let given : IsAnswer Usual c.args.place c.args.lines.now (answered.Read c.in-Read.instance c.in-Read.windows c.in-Read.certificate) = rw c.in-Read.is at c.in_ok-instance.ensures.given in
    read-shown Usual c.args.place c.args.lines.now c.in_ok-shown-in-Read.shown (λ (p : Problem) (wanted : Wanted) (d : Statement). ShowsYard c.args.seed p wanted d c.in_ok-shown-in-Read.shown)
    c.in-Read.instance c.in-Read.windows c.in-Read.certificate (λ wanted windows. rw c.in_ok-shown-in-Read.was at (c.run_plan.ensures.shown wanted windows)) given

pub returns-in-NoPlan-clause-shown : goal.returns-in-NoPlan-clause-shown
returns-in-NoPlan-clause-shown c =
    let given : IsAnswer Usual c.args.place c.args.lines.now answered.NoPlan = rw c.in-NoPlan.is at c.in_ok-instance.ensures.given in
    none-shown Usual c.args.place c.args.lines.now (λ (p : Problem) (wanted : Wanted) (d : Statement). ShowsYard c.args.seed p wanted d (shown.RejectedPart 1)) given

pub returns-in-Fault-clause-shown : goal.returns-in-Fault-clause-shown
returns-in-Fault-clause-shown c =
    let given : IsAnswer Usual c.args.place c.args.lines.now (answered.Fault c.in-Fault.ordinal c.in-Fault.code) = rw c.in-Fault.is at c.in_ok-instance.ensures.given in
    fault-shown Usual c.args.place c.args.lines.now (λ (p : Problem) (wanted : Wanted) (d : Statement). ShowsYard c.args.seed p wanted d (shown.BadInput c.in-Fault.ordinal c.in-Fault.code)) c.in-Fault.ordinal c.in-Fault.code given
