use Rattle.std.proofs.Common.{rules}
use Rattle.fp_app.proofs.Verdicts.{IsFirstFailed-ShowsRejected}
use Rattle.fp_app.proofs.check_outcomes.check_outcome.Goals as goal

pub returns-in-Err-Part : goal.returns-in-Err-Part
returns-in-Err-Part c =
    IsFirstFailed-ShowsRejected c.args.instance.now c.in_ok-windows.windows c.args.certificate.now _
    c.in_ok-windows.ensures.windows c.in_ok-windows.ensures.anchors c.in_ok-windows.ensures.belongs (c.in-Err-Part.ensures.part _ (search rules))
