use Rattle.std.proofs.Common.{arith}
use Rattle.fp_session.proofs.BoundClaims.{bound-claims}
use Rattle.fp_session.proofs.progress.progress_of.Goals as goal

pub returns-clause-bound : goal.returns-clause-bound
returns-clause-bound c = λ d routes some plan within.
    omega (arith, c.min.ensures, bound-claims c.args.search.now c.args.prices.now c.requires c.leaves_cover_all.ensures.tree c.least_worth.result c.least_worth.ensures d routes some plan within)
