-- A table that was added with nothing beside it, which goes again where it doesn't serve.
use Rattle.std.proofs.Common.{◌≡◌, Bool, true, List, [], ◌∷◌, ◌∙◌, subst}
use Rattle.std.specs.Prelude.{MatchBool}
use Rattle.fp_model.specs.Problem.{Problem}
use Rattle.fp_flatnet.specs.Tables.{WindowTable}
use Rattle.fp_prices.specs.Shares.{ClassShare}
use Rattle.fp_duals.specs.PriceTables.{ArePriceTables}
use Rattle.fp_duals_leaves.specs.Prices.{ArePrices, HaveGrown, PriceLists, with_more}
use Rattle.fp_duals_leaves.proofs.GrownPrices.{HaveGrown-cut, HaveGrown-same, HaveGrown-table}
use Rattle.fp_duals_leaves.proofs.steady_prices.steady_price.Goals as goal

-- what is known of the prices after a table was added
added-told : (b : Bool) (before after : PriceLists) (shares : List ClassShare) → b ≡ true → MatchBool b (after ≡ with_more before (shares ∷ []) ([] ∷ []) ([] ∷ [])) (after ≡ before) →
    after ≡ with_more before (shares ∷ []) ([] ∷ []) ([] ∷ [])
added-told b before after shares is told = subst (λ (x : Bool). MatchBool x (after ≡ with_more before (shares ∷ []) ([] ∷ []) ([] ∷ [])) (after ≡ before)) is told

-- so they have grown
grown-by : (p q : Problem) (table : WindowTable) (b : Bool) (before after : PriceLists) (shares : List ClassShare) → ArePrices p table before → q ≡ p → ArePriceTables q after.tables → b ≡ true →
    MatchBool b (after ≡ with_more before (shares ∷ []) ([] ∷ []) ([] ∷ [])) (after ≡ before) → HaveGrown p table before after
grown-by p q table b before after shares are same in_order is told =
    HaveGrown-table p table before after shares are (subst (λ (x : Problem). ArePriceTables x after.tables) same in_order) (added-told b before after shares is told)

pub is_worth-requires-clause-prices : goal.is_worth-requires-clause-prices
is_worth-requires-clause-prices c =
    (grown-by c.args.leaf.now.setting.problem c.instance.result.now c.args.leaf.now.setting.windows c.in_ok-push_table.field-0 c.args.prices.now c.push_table.new.self c.in_ok-table.table c.requires.prices
    (c.instance.ensures.same ∙ c.round.ensures.problem) c.in_ok-push_table.ensures.tables c.if-not-branch.false c.in_ok-push_table.ensures.added).prices

pub returns-in_err-is_worth-clause-grown : goal.returns-in_err-is_worth-clause-grown
returns-in_err-is_worth-clause-grown c =
    grown-by c.args.leaf.now.setting.problem c.instance.result.now c.args.leaf.now.setting.windows c.in_ok-push_table.field-0 c.args.prices.now c.push_table.new.self c.in_ok-table.table c.requires.prices
    (c.instance.ensures.same ∙ c.round.ensures.problem) c.in_ok-push_table.ensures.tables c.if-not-branch.false c.in_ok-push_table.ensures.added

pub returns-then-branch-clause-grown : goal.returns-then-branch-clause-grown
returns-then-branch-clause-grown c =
    grown-by c.args.leaf.now.setting.problem c.instance.result.now c.args.leaf.now.setting.windows c.in_ok-push_table.field-0 c.args.prices.now c.push_table.new.self c.in_ok-table.table c.requires.prices
    (c.instance.ensures.same ∙ c.round.ensures.problem) c.in_ok-push_table.ensures.tables c.if-not-branch.false c.in_ok-push_table.ensures.added

pub returns-clause-grown : goal.returns-clause-grown
returns-clause-grown c =
    let p : Problem = c.args.leaf.now.setting.problem in
    let table : WindowTable = c.args.leaf.now.setting.windows in
    let grown : HaveGrown p table c.args.prices.now c.push_table.new.self =
    grown-by p c.instance.result.now table c.in_ok-push_table.field-0 c.args.prices.now c.push_table.new.self c.in_ok-table.table c.requires.prices
    (c.instance.ensures.same ∙ c.round.ensures.problem) c.in_ok-push_table.ensures.tables c.if-not-branch.false c.in_ok-push_table.ensures.added in
    HaveGrown-same p table c.args.prices.now c.cut.new.self
    (c.cut.ensures ∙ HaveGrown-cut p table c.args.prices.now c.push_table.new.self c.count-count.result c.requires.prices grown c.count-count.ensures)
    c.requires.prices
