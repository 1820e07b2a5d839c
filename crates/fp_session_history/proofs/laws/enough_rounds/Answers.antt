use Rattle.fp_session_history.proofs.Enough.{EnoughRounds_hold}
use Rattle.fp_session_history.proofs.laws.enough_rounds.Goals as goal

pub returns : goal.returns
returns c = EnoughRounds_hold
