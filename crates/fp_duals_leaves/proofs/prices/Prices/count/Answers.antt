use Rattle.std.proofs.Common.{length, ap, arith}
use Rattle.fp_duals.proofs.PriceLines.{tables-le-lines}
use Rattle.fp_duals_leaves.proofs.prices.Prices.count.Goals as goal

pub overflow_cast-result : goal.overflow_cast-result
overflow_cast-result c = omega (arith, tables-le-lines c.self.inside.tables, c.list.ensures.within.lines, ap length c.list.ensures.same)
