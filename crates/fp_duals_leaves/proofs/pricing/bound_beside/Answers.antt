-- Without gifts the bound by spans is the one with them.
use Rattle.std.proofs.Common.{◌∙◌, List, length, sym, ap}
use Rattle.std.specs.Prelude.{◌==◌}
use Rattle.std.proofs.lemmas.Bool.{false≢true}
use Rattle.fp_flatnet.specs.Tables.{windows_in}
use Rattle.fp_longestarcs.specs.Networks.{points_in}
use Rattle.fp_prices_gifts.specs.declared.gifts.Gift.{Gift}
use Rattle.fp_duals_leaves.proofs.GiftlessBounds.{bound-giftless}
use Rattle.fp_duals_leaves.proofs.SoundSpans.{nothing-in}
use Rattle.fp_duals_leaves.proofs.pricing.bound_beside.Goals as goal

pub returns-then-is_empty-clause-exact : goal.returns-then-is_empty-clause-exact
returns-then-is_empty-clause-exact c =
    let leaf = c.args.leaf.now in
    bound-giftless leaf.setting.problem (windows_in leaf.setting.windows) (points_in leaf.setting.network) leaf.sides c.args.tables.now c.args.spans.now c.args.kind c.args.forced c.args.gifts.now c.in_ok-bound.bound
    (nothing-in c.args.gifts.now (sym c.is_empty.ensures ∙ c.if-is_empty.true)) c.in_ok-bound.ensures.exact

pub returns-clause-priced : goal.returns-clause-priced
returns-clause-priced c = λ none. absurd (false≢true (sym c.if-is_empty.false ∙ c.is_empty.ensures ∙ ap (λ (gifts : List Gift). length gifts == 0) none))
