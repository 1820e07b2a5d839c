use Rattle.std.proofs.Common.{◌≡◌, ℕ, List, ◌∙◌, subst}
use Rattle.std.specs.Prelude.{MatchOption, Option}
use Rattle.fp_model.specs.Problem.{Problem}
use Rattle.fp_longestarcs.specs.Networks.{TimedNetwork, points_in}
use Rattle.fp_tree.specs.declared.sides.Side.{Side}
use Rattle.fp_prices.specs.Rounds.{LeafModel}
use Rattle.fp_prices_gifts.specs.declared.gifts.Gift.{Gift}
use Rattle.fp_prices_gifts.specs.GiftLeaves.{IsGiven}
use Rattle.fp_prices_gifts.proofs.OneGiftValue.{with-plain}
use Rattle.fp_prices_gifts.proofs.bounds.value_with.Goals as goal

-- a number is what gifts make of a value, if they make one
abbrev Found : Problem → TimedNetwork → List Side → List Gift → ℕ → Option ℕ → Type 0
Found p net sides gifts value r = MatchOption r ((v : ℕ) → IsGiven p (points_in net) sides gifts value v → ⊥) (IsGiven p (points_in net) sides gifts value)

pub returns-clause-exact : goal.returns-clause-exact
returns-clause-exact c =
    let m : LeafModel = c.args.leaf.now in
    let gifts : List Gift = c.args.gifts.now in
    let r : Option ℕ = c.gift_value.result in
    let problem : c.instance-instance.result.now ≡ m.setting.problem = c.instance-instance.ensures.same ∙ c.round-round.ensures.problem in
    let network : c.network.result.now ≡ m.setting.network = c.network.ensures.same ∙ c.round-round.ensures.network in
    with-plain m.setting.problem (points_in m.setting.network) m.sides gifts c.args.forced c.args.value r (c.is_plain.ensures.0 c.if-not-is_plain.false)
    (subst (λ (sides : List Side). Found m.setting.problem m.setting.network sides gifts c.args.value r) c.sides.ensures
    (subst (λ (net : TimedNetwork). Found m.setting.problem net c.sides.result.now gifts c.args.value r) network
    (subst (λ (p : Problem). Found p c.network.result.now c.sides.result.now gifts c.args.value r) problem c.gift_value.ensures.exact)))
