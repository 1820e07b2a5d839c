use Rattle.fp_session_history.proofs.Enough.{EnoughBranches_hold}
use Rattle.fp_session_history.proofs.laws.enough_branches.Goals as goal

pub returns : goal.returns
returns c = EnoughBranches_hold
