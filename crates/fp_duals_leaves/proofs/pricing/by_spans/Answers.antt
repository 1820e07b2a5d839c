-- Spans and gifts that are found are sound, and stand beside a table without shares.
use Rattle.std.proofs.Common.{◌≡◌, ℕ, ◌+◌, Bool, true, inr, List, [], ◌∷◌, subst, arith}
use Rattle.std.specs.Prelude.{IfSome, MatchBool, Option, Some}
use Rattle.fp_longestarcs.specs.Networks.{points_in}
use Rattle.fp_prices.specs.Rounds.{LeafModel}
use Rattle.fp_prices_gifts.specs.declared.gifts.Gift.{Gift}
use Rattle.fp_prices_spans.specs.Spans.{ClassSpan}
use Rattle.fp_duals_leaves.specs.declared.span_prices.SpanPrice.{SpanPrice}
use Rattle.fp_duals_leaves.specs.SpanPrices.{IsBetterPrice}
use Rattle.fp_duals_leaves.specs.Prices.{PriceLists, with_more}
use Rattle.fp_duals_leaves.proofs.GrownPrices.{HaveGrown-spans}
use Rattle.fp_duals.proofs.PriceLines.{tables-le-lines}
use Rattle.fp_duals_leaves.proofs.Worths.{worth-added}
use Rattle.fp_duals_leaves.proofs.pricing.by_spans.Goals as goal

pub overflow_add-id : goal.overflow_add-id
overflow_add-id g c = omega (arith, tables-le-lines c.args.prices.now.tables, c.tables.ensures.within.lines, c.count-id.ensures)

-- what is known of the prices after spans and gifts were added
added-told : (b : Bool) (before after : PriceLists) (spans : List ClassSpan) (gifts : List Gift) → b ≡ true → MatchBool b (after ≡ with_more before ([] ∷ []) (spans ∷ []) (gifts ∷ [])) (after ≡ before) →
    after ≡ with_more before ([] ∷ []) (spans ∷ []) (gifts ∷ [])
added-told b before after spans gifts is told = subst (λ (x : Bool). MatchBool x (after ≡ with_more before ([] ∷ []) (spans ∷ []) (gifts ∷ [])) (after ≡ before)) is told

better-told : (leaf : LeafModel) (value : ℕ) (o : Option SpanPrice) (found : SpanPrice) → o ≡ Some found →
    IfSome o (IsBetterPrice leaf.setting.problem leaf.setting.windows (points_in leaf.setting.network) leaf.sides value) →
    IsBetterPrice leaf.setting.problem leaf.setting.windows (points_in leaf.setting.network) leaf.sides value found
better-told leaf value o found is told = subst (λ (x : Option SpanPrice). IfSome x (IsBetterPrice leaf.setting.problem leaf.setting.windows (points_in leaf.setting.network) leaf.sides value)) is told

pub returns-clause-grown : goal.returns-clause-grown
returns-clause-grown g c =
    HaveGrown-spans c.args.leaf.now.setting.problem c.args.leaf.now.setting.windows c.args.prices.now c.push_spans.new.self c.in-Some.found.spans.items c.in-Some.found.gifts.items c.requires.prices c.requires.unit
    (better-told c.args.leaf.now c.args.first.value c.in_ok-found.found c.in-Some.found c.in-Some.is c.in_ok-found.ensures).sound
    (added-told c.in_ok-push_spans.field-0 c.args.prices.now c.push_spans.new.self c.in-Some.found.spans.items c.in-Some.found.gifts.items c.if-not-branch.false c.in_ok-push_spans.ensures.added)

pub returns-clause-worth : goal.returns-clause-worth
returns-clause-worth g c =
    let leaf = c.args.leaf.now in
    let better = better-told leaf c.args.first.value c.in_ok-found.found c.in-Some.found c.in-Some.is c.in_ok-found.ensures in
    inr (
      worth-added leaf.setting.problem leaf.setting.windows (points_in leaf.setting.network) leaf.sides c.args.prices.now c.push_spans.new.self c.in-Some.found.spans.items c.in-Some.found.gifts.items c.args.first.price.round (c.count-id.result + 1) c.in-Some.found.value
          c.requires.prices (added-told c.in_ok-push_spans.field-0 c.args.prices.now c.push_spans.new.self c.in-Some.found.spans.items c.in-Some.found.gifts.items c.if-not-branch.false c.in_ok-push_spans.ensures.added) (omega (arith, c.count-id.ensures)) better.is,
      better.above,
    )
