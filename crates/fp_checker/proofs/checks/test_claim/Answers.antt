use Rattle.std.proofs.Common.{arith}
use Rattle.std.proofs.lemmas.Result.{err_from_is_err_and}
use Rattle.fp_checker.proofs.Results.{Err_any}
use Rattle.fp_checker.proofs.checks.test_claim.Goals as goal

pub returns-in_err-tested_plan-clause-part : goal.returns-in_err-tested_plan-clause-part
returns-in_err-tested_plan-clause-part c =
    let e = err_from_is_err_and c.from_residual.result c.from_residual.ensures.1 in
    rw (e.1, e.2) (λ number same.
    let fails = c.in_err-tested_plan.ensures.part number (Err_any _ _ same) in
    (omega (arith, fails.0), fails.1))
