use Rattle.std.proofs.Common.{refl}
use Rattle.fp_session_history.specs.declared.endings.Left.TheVariants.{Nothing}
use Rattle.fp_session.proofs.NoReserve.{none-in-reserve}
use Rattle.fp_session.proofs.SameHands.{IsSearch-back, cut-back, cut-few}
use Rattle.fp_session.proofs.SearchChanges.{IsSearch-stop}
use Rattle.fp_session.proofs.advances.advance_open.Goals as goal

pub returns-in-None-clause-search : goal.returns-in-None-clause-search
returns-in-None-clause-search g c = IsSearch-stop c.args.search.now c.args.prices.now c.requires.search c.requires.going Nothing (c.in-None.ensures.none.0 refl)
    (none-in-reserve c.args.search.now c.args.prices.now c.requires.search c.leaves_cover_all.ensures.tree (c.in-None.ensures.none.0 refl))

pub returns-in-None-clause-step : goal.returns-in-None-clause-step
returns-in-None-clause-step g c = record { left = refl; leaves = refl; splits = refl; branches = refl; cost = refl; trace = refl }

pub returns-in-None-clause-order : goal.returns-in-None-clause-order
returns-in-None-clause-order g c = record { tree = refl; closed = c.in-None.ensures.none.0 refl }

pub cut-requires : goal.cut-requires
cut-requires g c =
    cut-few c.args.search.now.instance c.args.search.now.windows c.args.prices.now c.attempt.new.prices c.count-count.result c.attempt.ensures.grown c.count-count.ensures

pub returns-in-Err-clause-search : goal.returns-in-Err-clause-search
returns-in-Err-clause-search g c =
    IsSearch-back c.args.search.now c.attempt.new.search c.args.prices.now c.cut.new.self c.in-Err.ensures.err
    (cut-back c.args.search.now.instance c.args.search.now.windows c.args.prices.now c.attempt.new.prices c.cut.new.self c.count-count.result c.requires.search.prices c.attempt.ensures.grown
    c.count-count.ensures c.cut.ensures) c.requires.search

pub returns-in-Err-clause-prices : goal.returns-in-Err-clause-prices
returns-in-Err-clause-prices g c =
    cut-back c.args.search.now.instance c.args.search.now.windows c.args.prices.now c.attempt.new.prices c.cut.new.self c.count-count.result c.requires.search.prices c.attempt.ensures.grown
    c.count-count.ensures c.cut.ensures
