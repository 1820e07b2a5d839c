use Rattle.std.proofs.Common.{◌≡◌, ◌∙◌, ℕ, Bool, List, sym, subst}
use Rattle.std.specs.Prelude.{⊤, IfSome, IsSomeAnd, None, Option, Some}
use Rattle.fp_ends.specs.Deadlines.{has_shown}
use Rattle.fp_model.specs.declared.parts.Leg.{Leg}
use Rattle.fp_model.specs.Problem.{Problem}
use Rattle.fp_flatnet.specs.Tables.{WindowTable}
use Rattle.fp_session_history.specs.declared.budgets.Budget.{Budget}
use Rattle.fp_session_history.specs.declared.endings.Left.{Left}
use Rattle.fp_session_history.specs.Solutions.{IsTimely, Solution}
use Rattle.fp_session.specs.Certificates.{IsPricedBy}
use Rattle.fp_session.specs.Searches.{InHand}
use Rattle.fp_session.specs.Sessions.{SessionModel, hand_of}
use Rattle.fp_session.specs.Solved.{IsSolved, ShowsInHand}
use Rattle.fp_session.specs.Steps.{StayFixed}
use Rattle.fp_app.specs.Searches.{within}
use Rattle.fp_app.proofs.SearchClaims.{IsChosen, session-searched}
use Rattle.fp_app.proofs.commands.searches.search_from.Goals as goal
use Rattle.fp_app.proofs.commands.searches.search_from.Goals.{then-options+in_ok-session, else-options+in_ok-session-2}

-- what a search had in hand that has ended is what it was begun for
solved-of : (m n : SessionModel) (x : Solution) → StayFixed (hand_of m) (hand_of n) → IsSolved n.instance n.windows n.budget n.started x → IsSolved m.instance m.windows m.budget m.started x
solved-of m n x fixed is =
    subst (λ (p : Problem). IsSolved p m.windows m.budget m.started x) fixed.instance
    (subst (λ (t : WindowTable). IsSolved n.instance t m.budget m.started x) fixed.windows
    (subst (λ (b : Budget). IsSolved n.instance n.windows b m.started x) fixed.budget (subst (λ (k : ℕ). IsSolved n.instance n.windows n.budget k x) fixed.started is)))

-- and it ended in time
timely-of : (over : Bool) (left : Option Left) (s : InHand) (x : Solution) → IsSomeAnd left (λ l. ⊤) → IfSome left (IsTimely over) → IfSome left (λ l. ShowsInHand s l x) → IsTimely over x.left
timely-of over None s x some timely shows = absurd some
timely-of over (Some l) s x some timely shows = subst (IsTimely over) (sym shows.left) timely

-- of the instance itself
own-solved : (p q : Problem) (table : WindowTable) (first : List (List Leg)) (budget : Budget) (spans : Bool) (m : SessionModel) (x : Solution) → q ≡ p → IsChosen q table first budget spans m →
    IsSolved m.instance m.windows m.budget m.started x → IsSolved p m.windows m.budget m.started x
own-solved p q table first budget spans m x same chosen is = subst (λ (r : Problem). IsSolved r m.windows m.budget m.started x) (chosen.of.instance ∙ same) is

pub returns-clause-searched : goal.returns-clause-searched
returns-clause-searched g c = λ wanted windows first.
    let chosen : IsChosen c.in_ok-instance.instance c.args.windows c.args.start c.args.options.budget c.args.options.spans c.if-options.session =
    elim c.if-options.branch [
      | then-options+in_ok-session w ↦ rw (w.if-options.true, w.session-is) (record { of = w.in_ok-session.ensures.of; unit = w.in_ok-session.ensures.unit })
      | else-options+in_ok-session-2 w ↦ rw (w.if-options.false, w.session-is) (record { of = w.in_ok-session-2.ensures.of; unit = w.in_ok-session-2.ensures.unit })
    ] in
    session-searched c.args.instance.now c.in_ok-instance.instance wanted c.args.windows (within c.args.options.budget (has_shown c.args.options.seconds (g.C.Clock.moment c.finish.new.clock) (g.C.Clock.faults c.args.clock.now) (g.C.Clock.faults c.finish.new.clock)) c.args.options.spans) c.args.start c.if-options.session c.in_ok-solved.solved windows first
    c.written_reads_back.ensures c.texts_are_short.ensures c.in_ok-instance.ensures chosen (solved-of c.if-options.session c.finish.new.session c.in_ok-solved.solved c.finish.ensures.fixed c.in_ok-solved.ensures.solved)
    (timely-of (has_shown c.args.options.seconds (g.C.Clock.moment c.finish.new.clock) (g.C.Clock.faults c.args.clock.now) (g.C.Clock.faults c.finish.new.clock)) c.finish.new.session.left (hand_of c.finish.new.session) c.in_ok-solved.solved
    c.in_ok-finish.ensures.ended c.finish.ensures.timed c.in_ok-solved.ensures.shown)
    (subst (λ (unit : Option ℕ). IsPricedBy unit c.in_ok-solved.solved.certificate) c.finish.ensures.unit c.in_ok-solved.ensures.priced)

pub returns-clause-checkable : goal.returns-clause-checkable
returns-clause-checkable g c =
    let chosen : IsChosen c.in_ok-instance.instance c.args.windows c.args.start c.args.options.budget c.args.options.spans c.if-options.session =
    elim c.if-options.branch [
      | then-options+in_ok-session w ↦ rw (w.if-options.true, w.session-is) (record { of = w.in_ok-session.ensures.of; unit = w.in_ok-session.ensures.unit })
      | else-options+in_ok-session-2 w ↦ rw (w.if-options.false, w.session-is) (record { of = w.in_ok-session-2.ensures.of; unit = w.in_ok-session-2.ensures.unit })
    ] in
    let own =
    own-solved c.args.instance.now c.in_ok-instance.instance c.args.windows c.args.start c.args.options.budget c.args.options.spans c.if-options.session c.in_ok-solved.solved c.in_ok-instance.ensures chosen
    (solved-of c.if-options.session c.finish.new.session c.in_ok-solved.solved c.finish.ensures.fixed c.in_ok-solved.ensures.solved) in
    (own.range, own.countable, own.few)
