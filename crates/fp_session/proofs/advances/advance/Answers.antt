-- A search that has ended isn't asked for an order.
use Rattle.std.proofs.Common.{◌∙◌, sym}
use Rattle.std.proofs.lemmas.Option.{none-some}
use Rattle.fp_session.specs.Searches.{in_hand}
use Rattle.fp_session.proofs.LeastWorths.{keep-any}
use Rattle.fp_session.proofs.StepOrder.{order-any}
use Rattle.fp_session.proofs.advances.advance.Goals as goal

pub returns-in-Some-clause-order : goal.returns-in-Some-clause-order
returns-in-Some-clause-order g c = λ none. absurd (none-some _ (sym none ∙ c.in-Some.is))

pub returns-in-None-clause-order : goal.returns-in-None-clause-order
returns-in-None-clause-order g c = order-any c.args.prices.now.unit (in_hand c.args.search.now) (in_hand c.advance_open.new.search) c.advance_open.result c.advance_open.ensures.order

pub returns-in-Some-clause-least : goal.returns-in-Some-clause-least
returns-in-Some-clause-least g c = λ none. absurd (none-some _ (sym none ∙ c.in-Some.is))

pub returns-in-None-clause-least : goal.returns-in-None-clause-least
returns-in-None-clause-least g c =
    keep-any c.args.prices.now.unit (in_hand c.args.search.now) (in_hand c.advance_open.new.search) c.advance_open.result
    (order-any c.args.prices.now.unit (in_hand c.args.search.now) (in_hand c.advance_open.new.search) c.advance_open.result c.advance_open.ensures.order)
