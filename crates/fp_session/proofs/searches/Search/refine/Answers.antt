-- A round is added, or nothing without memory.
use Rattle.std.proofs.Common.{◌≡◌, List, ap}
use Rattle.fp_session_history.specs.Notes.{Refinement}
use Rattle.fp_session.specs.declared.searches.Search.{Search}
use Rattle.fp_session.specs.Searches.{InHand, IsSearch, in_hand}
use Rattle.fp_session.proofs.Applied.{OnErr-any}
use Rattle.fp_session.proofs.SearchChanges.{IsSearch-refine, IsSearch-reserve}
use Rattle.fp_session.proofs.searches.Search.refine.Goals as goal

pub returns-clause-search : goal.returns-clause-search
returns-clause-search c =
    let refined : Search = record c.args.self.now { points = c.args.round.refined.points; network = c.args.round.refined.network; trace = c.push.new.self } in
    let is : IsSearch refined c.args.prices.now =
    IsSearch-refine c.args.self.now c.args.prices.now c.requires.search c.requires.going c.args.round.note c.args.round.refined c.push.new.self c.in_ok-push.ensures.items c.requires.round in
    IsSearch-reserve refined c.args.prices.now c.args.self.now.reserve c.next_look-self.result is is.reserve is.ended

pub returns-in_err-push-clause-err : goal.returns-in_err-push-clause-err
returns-in_err-push-clause-err c =
    OnErr-any c.from_residual.result (in_hand (record c.args.self.now { trace = c.push.new.self }) ≡ in_hand c.args.self.now)
    (ap (λ (ns : List Refinement). let h : InHand = record (in_hand c.args.self.now) { trace = ns } in h) c.in_err-push.ensures.items)

pub returns-clause-refined : goal.returns-clause-refined
returns-clause-refined c =
    ap (λ (ns : List Refinement). let h : InHand = record (in_hand c.args.self.now) { points = c.args.round.refined.points; network = c.args.round.refined.network; trace = ns; preparation = c.next_look-self.result } in h)
    c.in_ok-push.ensures.items
