-- The spans and the gifts beside the price's table are sound.
use Rattle.std.proofs.Common.{sym, subst}
use Rattle.fp_prices_gifts.specs.Gifts.{AreGifts}
use Rattle.fp_prices_spans.specs.SpanLists.{AreSpans}
use Rattle.fp_duals_leaves.proofs.SpansBeside.{beside-sound}
use Rattle.fp_duals_leaves.proofs.pricing.bound_by.Goals as goal

pub bound_beside-requires-clause-spans : goal.bound_beside-requires-clause-spans
bound_beside-requires-clause-spans c =
    let setting = c.args.leaf.now.setting in
    subst (AreSpans setting.problem) (sym c.spans_beside-spans.ensures) (beside-sound setting.problem setting.windows c.args.prices.now c.args.price.kind c.requires.prices).list

pub bound_beside-requires-clause-gifts : goal.bound_beside-requires-clause-gifts
bound_beside-requires-clause-gifts c =
    let setting = c.args.leaf.now.setting in
    subst (AreGifts setting.problem) (sym c.gifts_beside-gifts.ensures) (beside-sound setting.problem setting.windows c.args.prices.now c.args.price.kind c.requires.prices).gifts
