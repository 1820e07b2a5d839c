use Rattle.fp_session.proofs.SameHands.{IsSearch-grown}
use Rattle.fp_session.proofs.advances.planned_in_time.Goals as goal

pub next_move-requires-2-clause-search : goal.next_move-requires-2-clause-search
next_move-requires-2-clause-search g c = IsSearch-grown c.args.search.now c.args.prices.now c.next_move.new.prices c.next_move.ensures.grown c.requires.going c.requires.search
