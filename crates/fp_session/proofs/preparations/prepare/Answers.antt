-- Prices grow while it is done, and without memory they are as before.
use Rattle.std.proofs.Common.{refl}
use Rattle.fp_session.proofs.SameHands.{IsSearch-back, IsSearch-grown, cut-back}
use Rattle.fp_session.proofs.preparations.prepare.Goals as goal

pub keep_prepared-requires-clause-search : goal.keep_prepared-requires-clause-search
keep_prepared-requires-clause-search g c =
    IsSearch-grown c.args.search.now c.args.prices.now c.done_before_step.new.prices c.done_before_step.ensures.grown c.requires.going c.requires.search

pub returns-in-Err-clause-search : goal.returns-in-Err-clause-search
returns-in-Err-clause-search g c =
    IsSearch-back c.args.search.now c.args.search.now c.args.prices.now c.cut.new.self refl
    (cut-back c.args.search.now.instance c.args.search.now.windows c.args.prices.now c.done_before_step.new.prices c.cut.new.self c.count-count.result c.requires.search.prices c.done_before_step.ensures.grown
    c.count-count.ensures c.cut.ensures) c.requires.search

pub returns-in-Err-clause-prices : goal.returns-in-Err-clause-prices
returns-in-Err-clause-prices g c =
    cut-back c.args.search.now.instance c.args.search.now.windows c.args.prices.now c.done_before_step.new.prices c.cut.new.self c.count-count.result c.requires.search.prices c.done_before_step.ensures.grown c.count-count.ensures c.cut.ensures
