use Rattle.std.proofs.Common.{◌≡◌, ◌<◌, ◌^◌, sym, subst, rules}
use Rattle.fp_model.specs.Problem.{Problem, weight_at}
use Rattle.fp_app_tails.specs.Ahead.{CanBeTold}
use Rattle.fp_app_tails.specs.Answers.{IsWantedOf}
use Rattle.fp_app_tails.specs.Duties.{duty_of}
use Rattle.fp_app_tails.specs.Verdicts.{IsRead}
use Rattle.fp_app_tails.proofs.AnswerCases.{fits-given}
use Rattle.fp_app_tails.proofs.Scales.{can-be_tested, can-be_told}
use Rattle.fp_app_tails.proofs.answers.answer_at.Goals as goal

pub wanted_answer-requires-clause-told : goal.wanted_answer-requires-clause-told
wanted_answer-requires-clause-told c =
    let same : c.with_scale-instance.result ≡ record c.args.instance { scale = c.args.scale } = c.with_scale-instance.ensures in
    subst (λ (q : Problem). CanBeTold q (duty_of c.args.told.now)) (sym same) (can-be_told c.args.instance c.args.scale (duty_of c.args.told.now) c.requires.told)

pub wanted_answer-requires-clause-read : goal.wanted_answer-requires-clause-read
wanted_answer-requires-clause-read c =
    let same : c.with_scale-instance.result ≡ record c.args.instance { scale = c.args.scale } = c.with_scale-instance.ensures in
    subst (λ (q : Problem). IsRead q (duty_of c.args.told.now) c.args.certificate) (sym same) (can-be_tested c.args.instance c.args.scale (duty_of c.args.told.now) c.args.certificate c.requires.read)

pub returns-clause-given : goal.returns-clause-given
returns-clause-given c =
    let same : c.with_scale-instance.result ≡ record c.args.instance { scale = c.args.scale } = c.with_scale-instance.ensures in
    let fits : weight_at c.args.scale c.args.instance.arcs c.args.instance.shipments < 2 ^ 127 = search rules in
    fits-given c.args.instance (duty_of c.args.told.now) c.args.certificate c.args.scale c.in_ok-given.given fits
    (subst (λ (q : Problem). IsWantedOf q (duty_of c.args.told.now) c.args.certificate c.in_ok-given.given) same c.in_ok-given.ensures.given)
