use Rattle.std.proofs.lemmas.Result.{IfOk-weaker}
use Rattle.fp_certificate_rules.proofs.Claims.{IsAccepted-ClaimsWithin, IsAccepted-Claims}
use Rattle.fp_checker.proofs.checks.check.Goals as goal

pub returns-clause-within : goal.returns-clause-within
returns-clause-within c =
    IfOk-weaker c.test_parts.result _ _
    (λ _ accepted. IsAccepted-ClaimsWithin c.args.instance.now c.args.windows.now c.args.certificate.now c.requires.belongs.valid c.requires.range accepted) c.test_parts.ensures.accepted

pub returns-clause-claims : goal.returns-clause-claims
returns-clause-claims c =
    IfOk-weaker c.test_parts.result _ _
    (λ _ accepted are. IsAccepted-Claims c.args.instance.now c.args.windows.now c.args.certificate.now c.requires.belongs.valid c.requires.range accepted are) c.test_parts.ensures.accepted
