use Rattle.std.proofs.Common.{List, length, refl, ap, subst, arith}
use Rattle.fp_flatnet.specs.Tables.{windows_in}
use Rattle.fp_longestarcs.specs.Networks.{points_in}
use Rattle.fp_prices.specs.LeastWalks.{AreLeastWalks}
use Rattle.fp_prices.specs.Shares.{ClassShare}
use Rattle.fp_duals.proofs.PriceLines.{tables-le-lines}
use Rattle.fp_duals.proofs.ReachedValues.{reached-value}
use Rattle.fp_duals.proofs.improving.priced.Goals as goal

pub overflow_cast-count : goal.overflow_cast-count
overflow_cast-count g c = omega (arith, tables-le-lines c.args.tables.now, c.list.ensures.within.lines, ap length c.list.ensures.same)

pub returns-in-Ok-clause-improved : goal.returns-in-Ok-clause-improved
returns-in-Ok-clause-improved g c =
    let leaf = c.args.leaf.now in
    let p = leaf.setting.problem in
    let chosen = c.in_ok-chosen.chosen in
    let choice = c.in_ok-chosen.ensures.choice in
    record {
      of_round = refl;
      kind = choice.start.kind;
      is_value = choice.start.value;
      small = choice.start.small;
      best = choice.best;
      least = subst (λ (tables : List (List ClassShare)). AreLeastWalks p (windows_in leaf.setting.windows) (points_in leaf.setting.network) leaf.sides tables chosen.kind chosen.forced c.in-Ok.walks.items) c.list-2.ensures.same c.in-Ok.ensures;
      reached = λ chains ends.
          reached-value p leaf.setting.windows (points_in leaf.setting.network) leaf.sides c.args.tables.now c.choice.new.tables chosen.kind chosen.forced choice.above.whole chosen.value chains c.windows-windows.ensures.belongs
          c.in_ok-chosen.ensures.tables.in_order.rule choice.above.value choice.start.value choice.above.below ends;
      added = choice.added;
    }
