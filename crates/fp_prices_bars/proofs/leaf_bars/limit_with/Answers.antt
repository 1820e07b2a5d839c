use Rattle.std.proofs.Common.{◌≡◌, ℕ, List, ◌∙◌, subst}
use Rattle.fp_model.specs.Problem.{Problem}
use Rattle.fp_longestarcs.specs.Networks.{TimedNetwork, points_in}
use Rattle.fp_tree.specs.declared.sides.Side.{Side}
use Rattle.fp_prices.specs.Rounds.{LeafModel}
use Rattle.fp_prices_gifts.specs.declared.gifts.Gift.{Gift}
use Rattle.fp_prices_gifts.specs.GiftLeaves.{AreGiftTotals}
use Rattle.fp_prices_bars.proofs.leaf_bars.limit_with.Goals as goal

-- the gifts have no totals
abbrev HaveNone : Problem → TimedNetwork → List Side → List Gift → Type 0
HaveNone p net sides gifts = (least most : ℕ) → AreGiftTotals p (points_in net) sides gifts least most → ⊥

pub returns-in_err-more-clause-exact : goal.returns-in_err-more-clause-exact
returns-in_err-more-clause-exact c =
    let m : LeafModel = c.args.leaf.now in
    let gifts : List Gift = c.args.gifts.now in
    let problem : c.instance.result.now ≡ m.setting.problem = c.instance.ensures.same ∙ c.round-round.ensures.problem in
    let network : c.network.result.now ≡ m.setting.network = c.network.ensures.same ∙ c.round-round.ensures.network in
    let none : HaveNone m.setting.problem m.setting.network m.sides gifts =
    subst (λ (sides : List Side). HaveNone m.setting.problem m.setting.network sides gifts) c.sides.ensures
    (subst (λ (net : TimedNetwork). HaveNone m.setting.problem net c.sides.result.now gifts) network
    (subst (λ (p : Problem). HaveNone p c.network.result.now c.sides.result.now gifts) problem c.in_err-more.ensures.exact)) in
    rw c.from_residual.ensures (λ least most plain totals. none least most totals)
