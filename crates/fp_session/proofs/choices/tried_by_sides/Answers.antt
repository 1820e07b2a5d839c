-- The prices that served a trial are cut away.
use Rattle.std.proofs.Common.{arith}
use Rattle.fp_session.proofs.SameHands.{cut-back, cut-few}
use Rattle.fp_session.proofs.Trials.{chosen-tried}
use Rattle.fp_session.proofs.choices.tried_by_sides.Goals as goal

pub cut-requires : goal.cut-requires
cut-requires g c =
    cut-few c.args.search.now.instance c.args.search.now.windows c.args.prices.now c.both_sides.new.prices c.count-count.result c.both_sides.ensures.grown c.count-count.ensures

pub cut-requires-in-Err : goal.cut-requires-in-Err
cut-requires-in-Err g c =
    cut-few c.args.search.now.instance c.args.search.now.windows c.args.prices.now c.both_sides.new.prices c.count-count.result c.both_sides.ensures.grown c.count-count.ensures

pub returns-in-Ok-clause-same : goal.returns-in-Ok-clause-same
returns-in-Ok-clause-same g c =
    cut-back c.args.search.now.instance c.args.search.now.windows c.args.prices.now c.both_sides.new.prices c.cut.new.self c.count-count.result c.requires.search.prices c.both_sides.ensures.grown c.count-count.ensures c.cut.ensures

pub returns-in-Err-clause-same : goal.returns-in-Err-clause-same
returns-in-Err-clause-same g c =
    cut-back c.args.search.now.instance c.args.search.now.windows c.args.prices.now c.both_sides.new.prices c.cut-in-Err.new.self c.count-count.result c.requires.search.prices c.both_sides.ensures.grown c.count-count.ensures c.cut-in-Err.ensures

pub returns-in-Ok-clause-chosen : goal.returns-in-Ok-clause-chosen
returns-in-Ok-clause-chosen g c =
    chosen-tried c.args.search.now c.args.prices.now c.both_sides.new.prices c.args.leaf.now.sides c.args.branching c.in-Ok.below c.trial_of.result.chosen c.count-count.result c.count-after.result c.requires.search c.both_sides.ensures.grown
    c.in-Ok.ensures.kept c.requires.branching c.trial_of.ensures.branching c.trial_of.ensures.below (λ few. omega (arith, few, c.count-after.ensures, c.count-count.ensures))
