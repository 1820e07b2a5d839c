use Rattle.fp_certificate_rules.proofs.LineCounts.{AcceptedAreFew_hold}
use Rattle.fp_certificate_rules.proofs.laws.accepted_are_few.Goals as goal

pub returns : goal.returns
returns c = AcceptedAreFew_hold
