use Rattle.fp_app_tails.specs.declared.ahead.Ahead.TheVariants as ahead
use Rattle.fp_app_tails.specs.Ahead.{IsAhead}
use Rattle.fp_app_tails.specs.Duties.{duty_of}
use Rattle.fp_app_tails.proofs.AnswerCases.{open-given, open-testable, stuck-given}
use Rattle.fp_app_tails.proofs.answers.wanted_answer.Goals as goal

pub returns-in-Open-clause-given : goal.returns-in-Open-clause-given
returns-in-Open-clause-given c =
    let opened : IsAhead c.args.whole.now (duty_of c.args.told.now) (ahead.Open c.in-Open.instance c.in-Open.windows) = rw c.in-Open.is at c.in_ok-instance.ensures in
    open-given c.args.whole.now (duty_of c.args.told.now) c.args.certificate c.in-Open.instance c.in-Open.windows opened

pub returns-in-Open-clause-testable : goal.returns-in-Open-clause-testable
returns-in-Open-clause-testable c =
    let opened : IsAhead c.args.whole.now (duty_of c.args.told.now) (ahead.Open c.in-Open.instance c.in-Open.windows) = rw c.in-Open.is at c.in_ok-instance.ensures in
    open-testable c.args.whole.now (duty_of c.args.told.now) c.args.certificate c.in-Open.instance c.in-Open.windows opened c.requires.read

pub returns-in-Stuck-clause-given : goal.returns-in-Stuck-clause-given
returns-in-Stuck-clause-given c =
    let stuck : IsAhead c.args.whole.now (duty_of c.args.told.now) (ahead.Stuck c.in-Stuck.shipment) = rw c.in-Stuck.is at c.in_ok-instance.ensures in
    stuck-given c.args.whole.now (duty_of c.args.told.now) c.args.certificate c.in-Stuck.shipment stuck
