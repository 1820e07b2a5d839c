use Rattle.fp_certificate_rules.proofs.Claims.{AcceptedClaims_hold}
use Rattle.fp_certificate_rules.proofs.laws.accepted_claims.Goals as goal

pub returns : goal.returns
returns c = AcceptedClaims_hold
