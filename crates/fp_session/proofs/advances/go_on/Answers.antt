-- A step goes on from what was in hand, where nothing is done before it.
use Rattle.std.proofs.Common.{◌∙◌, ap, subst}
use Rattle.fp_session.specs.Searches.{InHand, in_hand}
use Rattle.fp_session.specs.Steps.{HasGoneOn}
use Rattle.fp_session.proofs.LaterSearches.{gone-none, gone-step}
use Rattle.fp_session.proofs.advances.go_on.Goals as goal

pub returns-clause-onward : goal.returns-clause-onward
returns-clause-onward g c =
    let same = (c.in_ok-did.ensures.none c.if-did.false).0 in
    subst (λ (h : InHand). HasGoneOn h (in_hand c.advance_open.new.search)) same
    (gone-step (in_hand c.prepare.new.search) (in_hand c.prepare.new.search) (in_hand c.advance_open.new.search) (gone-none (in_hand c.prepare.new.search))
    (ap (λ (h : InHand). h.left) same ∙ c.requires.going) c.in_ok-advance_open.field-0 c.in_ok-advance_open.ensures.step)
