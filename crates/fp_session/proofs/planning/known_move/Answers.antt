-- What was kept of the leaf decides.
use Rattle.std.proofs.Common.{inr, arith}
use Rattle.fp_session_history.specs.Notes.{worth_of}
use Rattle.fp_session.specs.Nodes.{IsSettled}
use Rattle.fp_session.specs.Searches.{history}
use Rattle.fp_session.proofs.OpenMoves.{below-cost, late-stays, settled-stays}
use Rattle.fp_session.proofs.planning.known_move.Goals as goal

pub returns-then-is_dear-clause-planned : goal.returns-then-is_dear-clause-planned
returns-then-is_dear-clause-planned g c =
    let settled : IsSettled (history c.args.search.now c.args.prices.now) c.args.search.now.cost c.args.old.payload c.args.old.value = inr (c.is_dear.ensures.0 c.if-is_dear.true) in
    settled-stays c.args.search.now c.args.prices.now c.args.number c.args.old c.requires.search c.requires.old settled

pub returns-clause-planned : goal.returns-clause-planned
returns-clause-planned g c =
    late-stays c.args.search.now c.args.prices.now c.args.number c.args.old c.requires.search c.requires.old c.late.result c.requires.some
    (below-cost (worth_of (history c.args.search.now c.args.prices.now) c.args.old.value) c.args.search.now.cost c.is_dear.result c.if-is_dear.false c.is_dear.ensures.1)
    (omega (arith, c.len.ensures)) c.late.ensures
