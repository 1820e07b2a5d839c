use Rattle.std.proofs.Common.{◌+◌, drop, refl}
use Rattle.fp_certificate.specs.Reading.{certificate_of}
use Rattle.fp_app_tails.specs.declared.answers.Answered.TheVariants as answered
use Rattle.fp_app_tails.specs.declared.answers.Scale.TheVariants.{Named}
use Rattle.fp_app_tails.specs.declared.verdicts.Verdict.TheVariants as verdict
use Rattle.fp_app_tails.specs.Ahead.{ahead_problem}
use Rattle.fp_app_tails.specs.Answers.{IsGivenOf, IsTestable}
use Rattle.fp_app_tails.specs.Duties.{duty_of}
use Rattle.fp_app_tails.proofs.VerdictCases.{given-said}
use Rattle.fp_app_tails.proofs.verdicts.certificate_verdict.Goals as goal

pub tested-requires-clause-belongs : goal.tested-requires-clause-belongs
tested-requires-clause-belongs c =
    let can : IsTestable (answered.Read c.in-Read.instance c.in-Read.windows c.in-Read.certificate) = rw c.in-Read.is at c.in_ok-instance.ensures.testable in
    can.0

pub tested-requires-clause-tested : goal.tested-requires-clause-tested
tested-requires-clause-tested c =
    let can : IsTestable (answered.Read c.in-Read.instance c.in-Read.windows c.in-Read.certificate) = rw c.in-Read.is at c.in_ok-instance.ensures.testable in
    can.1

pub returns-in_ok-said-in-Read : goal.returns-in_ok-said-in-Read
returns-in_ok-said-in-Read c =
    let p = c.args.whole in
    let duty = duty_of c.args.told.now in
    let read = certificate_of (ahead_problem p duty) (c.args.place + 1) (drop c.args.place c.args.lines.now) in
    let given : IsGivenOf p duty Named read (answered.Read c.in-Read.instance c.in-Read.windows c.in-Read.certificate) = rw c.in-Read.is at c.in_ok-instance.ensures.given in
    given-said p duty read (answered.Read c.in-Read.instance c.in-Read.windows c.in-Read.certificate) c.in_ok-said-in-Read.said c.in_ok-said-in-Read.ensures given

pub returns-in-NoPlan : goal.returns-in-NoPlan
returns-in-NoPlan c =
    let p = c.args.whole in
    let duty = duty_of c.args.told.now in
    let read = certificate_of (ahead_problem p duty) (c.args.place + 1) (drop c.args.place c.args.lines.now) in
    let given : IsGivenOf p duty Named read answered.NoPlan = rw c.in-NoPlan.is at c.in_ok-instance.ensures.given in
    given-said p duty read answered.NoPlan (verdict.Rejected 1) refl given

pub returns-in-Fault : goal.returns-in-Fault
returns-in-Fault c =
    let p = c.args.whole in
    let duty = duty_of c.args.told.now in
    let read = certificate_of (ahead_problem p duty) (c.args.place + 1) (drop c.args.place c.args.lines.now) in
    let given : IsGivenOf p duty Named read (answered.Fault c.in-Fault.ordinal c.in-Fault.code) = rw c.in-Fault.is at c.in_ok-instance.ensures.given in
    given-said p duty read (answered.Fault c.in-Fault.ordinal c.in-Fault.code) (verdict.Fault c.in-Fault.ordinal c.in-Fault.code) refl given
