use Rattle.std.proofs.Common.{refl}
use Rattle.fp_model.specs.Problem.{Problem}
use Rattle.fp_certificate_lines.specs.Statements.{Statement}
use Rattle.fp_app.specs.declared.shown.Shown.TheVariants as shown
use Rattle.fp_app.specs.Checks.{AreWindowsOf}
use Rattle.fp_app.specs.Fleets.{ShowsFleet}
use Rattle.fp_app.specs.Wanted.{every}
use Rattle.fp_app.proofs.CertificateInputs.{both-shown, fault-shown}
use Rattle.fp_app.proofs.commands.fleets.fleet_alone.Goals as goal

pub returns-in_ok-shown-in-Both-clause-shown : goal.returns-in_ok-shown-in-Both-clause-shown
returns-in_ok-shown-in-Both-clause-shown c = λ input same.
    let read = (rw c.in-Both.is at c.in_ok-instance.ensures.given) input same in
    let windows : AreWindowsOf c.in-Both.instance c.in_ok-windows-in-Both.windows =
    record { exact = c.in_ok-windows-in-Both.ensures.windows; unanchored = c.in_ok-windows-in-Both.ensures.anchors; belongs = c.in_ok-windows-in-Both.ensures.belongs } in
    both-shown input c.in_ok-shown-in-Both.shown (λ (p : Problem) (d : Statement). ShowsFleet c.args.trucks p every d c.in_ok-shown-in-Both.shown) c.in-Both.instance c.in-Both.certificate read.0 read.1
    (rw c.in_ok-shown-in-Both.was at (c.plan_fleet.ensures.shown every windows))

pub returns-in-Fault-clause-shown : goal.returns-in-Fault-clause-shown
returns-in-Fault-clause-shown c = λ input same.
    let read = (rw c.in-Fault.is at c.in_ok-instance.ensures.given) input same in
    fault-shown input (shown.BadInput c.in-Fault.ordinal c.in-Fault.code) (λ (p : Problem) (d : Statement). ShowsFleet c.args.trucks p every d (shown.BadInput c.in-Fault.ordinal c.in-Fault.code)) c.in-Fault.ordinal c.in-Fault.code refl read
