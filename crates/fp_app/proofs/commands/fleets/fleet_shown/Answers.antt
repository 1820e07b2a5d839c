use Rattle.std.proofs.Common.{◌≡◌, ◌∙◌, ap, sym}
use Rattle.std.specs.Prelude.{Some}
use Rattle.fp_model.specs.Problem.{Problem}
use Rattle.fp_records.specs.Fields.{records_of}
use Rattle.fp_certificate_lines.specs.Statements.{Statement}
use Rattle.fp_app_tails.specs.declared.answers.Scale.TheVariants.{Usual}
use Rattle.fp_app.specs.Fleets.{ShowsFleet}
use Rattle.fp_app.specs.Inputs.{IsTailAnswer, OfCertificate}
use Rattle.fp_app.specs.Wanted.{Wanted, every}
use Rattle.fp_app.proofs.TailAnswers.{tail-shown}
use Rattle.fp_app.proofs.commands.fleets.fleet_shown.Goals as goal

pub returns-in-Some-clause-shown : goal.returns-in-Some-clause-shown
returns-in-Some-clause-shown c =
    let input = c.args.bytes.items in
    let s = c.in_ok-shown-in-Some.shown in
    let first : records_of input ≡ c.deref-2.result.now = sym (c.deref-2.ensures.value ∙ c.in_ok-lines.ensures.all ∙ ap records_of c.deref.ensures.value) in
    let same : records_of input ≡ c.deref-in-Some.result.now = sym (c.deref-in-Some.ensures.value ∙ c.in_ok-lines.ensures.all ∙ ap records_of c.deref.ensures.value) in
    let tells : IsTailAnswer input (Some c.in-Some.place) = rw c.in-Some.is at (c.tail_answer.ensures.tells input first) in
    tail-shown Usual input c.deref-in-Some.result.now same c.in-Some.place tells s (λ (p : Problem) (wanted : Wanted) (d : Statement). ShowsFleet c.args.trucks p wanted d s)
    (OfCertificate input s (λ (p : Problem) (d : Statement). ShowsFleet c.args.trucks p every d s)) c.in_ok-shown-in-Some.ensures.shown
