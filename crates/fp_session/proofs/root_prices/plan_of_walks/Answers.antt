-- Walks under the sides that are routes are a relaxed plan.
use Rattle.fp_flatnet.specs.Tables.{windows_in}
use Rattle.fp_relaxmodel.proofs.PlansCoarsen.{HasRoutes-relaxed}
use Rattle.fp_session.specs.Moves.{points_now}
use Rattle.fp_session.proofs.OpenMoves.{under-exist, under-relaxed}
use Rattle.fp_session.proofs.root_prices.plan_of_walks.Goals as goal

pub are_cheaper-requires-clause-exist : goal.are_cheaper-requires-clause-exist
are_cheaper-requires-clause-exist g c = under-exist c.args.search.now c.args.leaf.now.sides c.args.walks.items c.requires.under

pub are_cheaper-requires-clause-routes : goal.are_cheaper-requires-clause-routes
are_cheaper-requires-clause-routes g c = λ apart.
    HasRoutes-relaxed c.args.search.now.instance (windows_in c.args.search.now.windows) (points_now c.args.search.now) c.args.walks.items
    (under-relaxed c.args.search.now c.args.leaf.now.sides c.args.walks.items c.requires.under c.args.prices.now c.requires.search apart)

pub timed-requires-clause-relaxed : goal.timed-requires-clause-relaxed
timed-requires-clause-relaxed g c =
    under-relaxed c.args.search.now c.args.leaf.now.sides c.args.walks.items c.requires.under c.args.prices.now c.requires.search (c.are_cheaper.ensures.0 c.if-not-are_cheaper.false).0
