use Rattle.std.proofs.Common.{subst}
use Rattle.fp_flatnet.specs.declared.verdicts.Verdict.{Verdict}
use Rattle.fp_flatnet.specs.Verdicts.{IsBlocked, IsVerdict}
use Rattle.fp_model.specs.Problem.{Problem}
use Rattle.fp_app.proofs.GeneratedInTime.{generated-never_blocked}
use Rattle.fp_app.proofs.commands.trials.trial_shown.Goals as goal

pub unreachable-requires : goal.unreachable-requires
unreachable-requires c =
    let blocked : IsBlocked c.in_ok-instance.instance c.in-Blocked.shipment c.in-Blocked.distance =
    subst (λ (v : Verdict). IsVerdict c.in_ok-instance.instance v) c.in-Blocked.is c.in_ok-feasible.ensures.verdict in
    generated-never_blocked c.args.seed c.args.terminals c.args.shipments c.in-Blocked.shipment c.in-Blocked.distance c.requires.terminals.0
    (subst (λ (p : Problem). IsBlocked p c.in-Blocked.shipment c.in-Blocked.distance) c.in_ok-instance.ensures blocked)
