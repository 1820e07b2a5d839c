use Rattle.std.proofs.Common.{◌≡◌, ◌∙◌, ap, sym}
use Rattle.std.specs.Prelude.{Some}
use Rattle.fp_model.specs.Problem.{Problem}
use Rattle.fp_records.specs.Fields.{records_of}
use Rattle.fp_certificate_lines.specs.Statements.{Statement}
use Rattle.fp_app_tails.specs.Verdicts.{scaled}
use Rattle.fp_app.specs.Checks.{ShowsCheck}
use Rattle.fp_app.specs.Inputs.{IsTailAnswer, OfCertificate}
use Rattle.fp_app.proofs.SaidCauses.{said-shown}
use Rattle.fp_app.proofs.commands.checks.check_shown.Goals as goal

pub returns-in-Some-clause-shown : goal.returns-in-Some-clause-shown
returns-in-Some-clause-shown c =
    let input = c.args.bytes.items in
    let first : records_of input ≡ c.deref-2.result.now = sym (c.deref-2.ensures.value ∙ c.in_ok-lines.ensures.all ∙ ap records_of c.deref.ensures.value) in
    let same : records_of input ≡ c.deref-in-Some.result.now = sym (c.deref-in-Some.ensures.value ∙ c.in_ok-lines.ensures.all ∙ ap records_of c.deref.ensures.value) in
    let tells : IsTailAnswer input (Some c.in-Some.place) = rw c.in-Some.is at (c.tail_answer.ensures.tells input first) in
    said-shown input c.deref-in-Some.result.now c.in-Some.place c.in_ok-verdict-in-Some.verdict c.said.result
    (OfCertificate input c.said.result (λ (p : Problem) (d : Statement). ShowsCheck (scaled p d) d c.said.result)) same tells c.in_ok-verdict-in-Some.ensures c.said.ensures.is
