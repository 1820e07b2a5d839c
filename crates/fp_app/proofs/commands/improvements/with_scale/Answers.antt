use Rattle.std.proofs.Common.{◌≡◌, sym, subst}
use Rattle.fp_model.specs.Problem.{Problem}
use Rattle.fp_app.specs.CheckInputs.{CanBeChecked}
use Rattle.fp_app.proofs.CertifiedInputs.{at_scale-is}
use Rattle.fp_app_tails.proofs.ScaledCertificates.{CanBeTested-scaled}
use Rattle.fp_app.proofs.commands.improvements.with_scale.Goals as goal

pub returns-in-Read-clause-checkable : goal.returns-in-Read-clause-checkable
returns-in-Read-clause-checkable c =
    let same : c.in-Read.instance ≡ record c.args.instance { scale = c.args.scale } = at_scale-is c.args.scale c.in-Read.instance c.args.instance c.in-Read.ensures in
    subst (λ (p : Problem). CanBeChecked p c.args.certificate) (sym same) (CanBeTested-scaled c.args.instance c.args.scale c.args.certificate c.requires.checkable)
