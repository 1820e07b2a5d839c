use Rattle.std.proofs.Common.{◌+◌, drop, inl, inr, refl, subst}
use Rattle.fp_model.specs.Problem.{Problem}
use Rattle.fp_certificate.specs.Reading.{certificate_of}
use Rattle.fp_app_tails.specs.declared.ahead.Ahead.TheVariants as ahead
use Rattle.fp_app_tails.specs.Ahead.{IsAhead}
use Rattle.fp_app_tails.specs.Answers.{IsReadOf}
use Rattle.fp_app_tails.specs.Duties.{duty_of}
use Rattle.fp_app_tails.proofs.AheadCases.{open-goes, open-same, stuck-at}
use Rattle.fp_app_tails.proofs.answers.certificate_answer.Goals as goal

pub read_answer-requires-clause-rest : goal.read_answer-requires-clause-rest
read_answer-requires-clause-rest c =
    let opened : IsAhead c.args.whole (duty_of c.args.told.now) (ahead.Open c.in-Open.instance c.in-Open.windows) = rw c.in-Open.is at c.in_ok-instance.ensures in
    open-same c.args.whole (duty_of c.args.told.now) c.in-Open.instance c.in-Open.windows opened

pub returns-in_ok-given-in-Open-clause-given : goal.returns-in_ok-given-in-Open-clause-given
returns-in_ok-given-in-Open-clause-given c =
    let opened : IsAhead c.args.whole (duty_of c.args.told.now) (ahead.Open c.in-Open.instance c.in-Open.windows) = rw c.in-Open.is at c.in_ok-instance.ensures in
    inr (
      open-goes c.args.whole (duty_of c.args.told.now) c.in-Open.instance c.in-Open.windows opened,
      subst (λ (q : Problem). IsReadOf c.args.whole (duty_of c.args.told.now) c.args.scale (certificate_of q (c.args.place + 1) (drop c.args.place c.args.lines.now)) c.in_ok-given-in-Open.given)
          (open-same c.args.whole (duty_of c.args.told.now) c.in-Open.instance c.in-Open.windows opened) c.in_ok-given-in-Open.ensures.given,
    )

pub returns-in-Stuck-clause-given : goal.returns-in-Stuck-clause-given
returns-in-Stuck-clause-given c =
    let stuck : IsAhead c.args.whole (duty_of c.args.told.now) (ahead.Stuck c.in-Stuck.shipment) = rw c.in-Stuck.is at c.in_ok-instance.ensures in
    inl ((stuck-at c.args.whole (duty_of c.args.told.now) c.in-Stuck.shipment stuck).1, refl)
