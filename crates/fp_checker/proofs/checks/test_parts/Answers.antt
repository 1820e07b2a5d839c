use Rattle.std.proofs.Common.{sym, ap, ◌∙◌}
use Rattle.std.proofs.lemmas.Result.{err_from_is_err_and}
use Rattle.fp_certificate_lines.specs.Statements.{Statement}
use Rattle.fp_checker.proofs.Results.{Err_any}
use Rattle.fp_checker.proofs.FirstParts.{IsFirstFailed_direct, IsFirstFailed_claim, IsFirstFailed_infeasible}
use Rattle.fp_checker.proofs.checks.test_parts.Goals as goal

pub returns-in_err-tested_plan-in-Direct-clause-part : goal.returns-in_err-tested_plan-in-Direct-clause-part
returns-in_err-tested_plan-in-Direct-clause-part c =
    let e = err_from_is_err_and c.from_residual.result c.from_residual.ensures.1 in
    let failed = rw (← c.case.view_is) at c.in_err-tested_plan-in-Direct.ensures.part in
    rw (e.1, e.2) (λ number same.
    rw (← c.case.view_is) (IsFirstFailed_direct c.case.inside.instance.now c.case.inside.windows.now c.case.inside.certificate.now c.in-Direct.cost number (sym (ap (λ (s : Statement). s.answer) c.certificate.view_is) ∙ c.in-Direct.is)
    (failed number (Err_any _ _ same))))

pub returns-in-Optimal-clause-part : goal.returns-in-Optimal-clause-part
returns-in-Optimal-clause-part c number same =
    let failed = rw (← c.case.view_is) at c.test_claim.ensures.part in
    rw (← c.case.view_is) (IsFirstFailed_claim c.case.inside.instance.now c.case.inside.windows.now c.case.inside.certificate.now c.certificate.inside.answer number (sym (ap (λ (s : Statement). s.answer) c.certificate.view_is)) c.in-Optimal.is
    (failed number same))

pub returns-in-Infeasible-clause-part : goal.returns-in-Infeasible-clause-part
returns-in-Infeasible-clause-part c number same =
    rw (← c.case.view_is) (IsFirstFailed_infeasible c.case.inside.instance.now c.case.inside.windows.now c.case.inside.certificate.now c.in-Infeasible.shipment c.in-Infeasible.time number
    (sym (ap (λ (s : Statement). s.answer) c.certificate.view_is) ∙ c.in-Infeasible.is) (c.test_refusal.ensures.part number same))
