use Rattle.std.proofs.Common.{◌≡◌, ◌<◌, subst}
use Rattle.std.specs.Prelude.{⊤, IfOk, IsSomeAnd, None, OnOk}
use Rattle.fp_session.specs.Order.{KeepLeast}
use Rattle.fp_session.specs.Searches.{in_hand}
use Rattle.fp_session.specs.Sessions.{SessionModel, hand_of}
use Rattle.fp_session.specs.Steps.{steps_left}
use Rattle.fp_session.proofs.StepsLeft.{step-fewer}
use Rattle.fp_session.proofs.sessions.Session.step_within.Goals as goal

pub invariant_of-self : goal.invariant_of-self
invariant_of-self g c = c.advance.ensures.search

pub returns-clause-fewer : goal.returns-clause-fewer
returns-clause-fewer g c =
    subst (λ (m : SessionModel). m.left ≡ None → OnOk c.advance.result (steps_left (in_hand c.advance.new.search) < steps_left (hand_of m))) c.self.view_is
    (λ going. step-fewer (in_hand c.self.inside.search) (in_hand c.advance.new.search) c.advance.result going c.advance.ensures.fixed c.advance.ensures.step c.advance.ensures.search.rounds c.advance.ensures.search.few)

pub returns-clause-least : goal.returns-clause-least
returns-clause-least g c =
    subst (λ (m : SessionModel). IfOk c.advance.result (λ step. m.left ≡ None → IsSomeAnd m.prices.unit (λ unit. ⊤) → KeepLeast m.tree c.advance.new.search.tree)) c.self.view_is
    c.advance.ensures.least
