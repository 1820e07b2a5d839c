-- What is shown goes on from what the search had in hand.
use Rattle.std.proofs.Common.{sym, ◌∙◌, subst}
use Rattle.std.specs.Prelude.{IfOk}
use Rattle.fp_session.specs.Searches.{in_hand}
use Rattle.fp_session.specs.Sessions.{SessionModel, hand_of}
use Rattle.fp_session.specs.Solved.{GoesOnFrom}
use Rattle.fp_session.proofs.LaterSearches.{shown-onward}
use Rattle.fp_session.proofs.sessions.Session.solve.Goals as goal

pub returns-clause-onward : goal.returns-clause-onward
returns-clause-onward c =
    subst (λ (m : SessionModel). IfOk c.solution.result (GoesOnFrom (hand_of m))) c.self.view_is
    (shown-onward (in_hand c.self.inside.search) c.finish.new.search c.finish.new.prices.unit c.in-Some.left c.take.new.self c.in_ok-finish.ensures.onward (sym c.take.ensures.value ∙ c.in-Some.is) c.solution.result c.solution.ensures)
