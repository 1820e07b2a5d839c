use Rattle.std.proofs.Common.{ℕ, sym, subst}
use Rattle.std.specs.Prelude.{IfSome, Option}
use Rattle.fp_app_tails.specs.Answers.{IsScale, IsScaledOf}
use Rattle.fp_app_tails.specs.Duties.{duty_of}
use Rattle.fp_app_tails.proofs.AnswerCases.{scale-within}
use Rattle.fp_app_tails.proofs.answers.read_answer.Goals as goal

pub scaled_answer-requires-clause-scale : goal.scaled_answer-requires-clause-scale
scaled_answer-requires-clause-scale c =
    subst (λ (o : Option ℕ). IfSome o IsScale) (sym c.scale_by-at.ensures)
    (scale-within c.args.rest.now c.args.scale c.in-Ok.certificate c.requires.scale (c.in-Ok.ensures.range, c.in-Ok.ensures.countable, c.in-Ok.ensures.few))

pub returns-in-Ok-clause-given : goal.returns-in-Ok-clause-given
returns-in-Ok-clause-given c =
    rw c.in-Ok.ensures.read (subst (λ (o : Option ℕ). IsScaledOf c.args.instance (duty_of c.args.told.now) o c.in-Ok.certificate c.in_ok-given-in-Ok.given) c.scale_by-at.ensures c.in_ok-given-in-Ok.ensures.given)
