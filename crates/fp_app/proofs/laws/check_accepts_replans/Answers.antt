use Rattle.fp_app.proofs.ReplansAccepted.{CheckAcceptsReplans_hold}
use Rattle.fp_app.proofs.laws.check_accepts_replans.Goals as goal

pub returns : goal.returns
returns c = CheckAcceptsReplans_hold
