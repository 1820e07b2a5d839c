use Rattle.fp_app_tails.specs.Duties.{duty_of}
use Rattle.fp_app_tails.proofs.VerdictCases.{stuck-said}
use Rattle.fp_app_tails.proofs.verdicts.stuck_said.Goals as goal

pub returns-in-Of : goal.returns-in-Of
returns-in-Of c =
    let read = rw c.in-Of.is at c.in_ok-shipment.ensures in
    rw read (stuck-said c.args.instance.now (duty_of c.args.told.now) c.in_ok-ahead.ahead c.in-Of.shipment c.stuck_verdict.result c.in_ok-ahead.ensures c.stuck_verdict.ensures)
