-- What has come goes again without memory.
use Rattle.std.proofs.Common.{◌∙◌, arith}
use Rattle.fp_duals_leaves.proofs.GrownPrices.{HaveGrown-cut, HaveGrown-long, HaveGrown-same}
use Rattle.fp_duals_leaves.proofs.pricing.improve.Goals as goal

pub cut-requires : goal.cut-requires
cut-requires g c =
    omega (arith, c.count-count.ensures, HaveGrown-long c.args.leaf.now.setting.problem c.args.leaf.now.setting.windows c.args.prices.now c.improve_further.new.prices c.improve_further.ensures.grown)

pub returns-in-Err-clause-grown : goal.returns-in-Err-clause-grown
returns-in-Err-clause-grown g c =
    HaveGrown-same c.args.leaf.now.setting.problem c.args.leaf.now.setting.windows c.args.prices.now c.cut.new.self
    (c.cut.ensures ∙ HaveGrown-cut c.args.leaf.now.setting.problem c.args.leaf.now.setting.windows c.args.prices.now c.improve_further.new.prices c.count-count.result c.requires.prices c.improve_further.ensures.grown c.count-count.ensures)
    c.requires.prices

pub returns-in-Err-clause-err : goal.returns-in-Err-clause-err
returns-in-Err-clause-err g c =
    c.cut.ensures ∙ HaveGrown-cut c.args.leaf.now.setting.problem c.args.leaf.now.setting.windows c.args.prices.now c.improve_further.new.prices c.count-count.result c.requires.prices c.improve_further.ensures.grown c.count-count.ensures
