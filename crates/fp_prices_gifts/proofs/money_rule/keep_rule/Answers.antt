use Rattle.std.proofs.Common.{ℕ, List, slice_index_or}
use Rattle.std.proofs.lemmas.List.Elements.{recursion_from_All}
use Rattle.fp_model.specs.Problem.{Problem}
use Rattle.fp_prices_spans.specs.Spans.{ClassSpan}
use Rattle.fp_prices_gifts.specs.declared.gifts.Gift.{Gift}
use Rattle.fp_prices_gifts.specs.Gifts.{KeepMoneyRule, KeepsAtEnds}
use Rattle.fp_prices_gifts.proofs.RuleEnds.{keeps-arc}
use Rattle.fp_prices_gifts.proofs.money_rule.keep_rule.Goals as goal

-- the rule at every class is one at all ends
at_ends : (p : Problem) (spans : List ClassSpan) (gifts : List Gift) → KeepMoneyRule p spans gifts → (arc point until : ℕ) → KeepsAtEnds p spans gifts arc point until
at_ends p spans gifts rule arc point until = (rule (record { arc = arc; depart = 0 }), rule (record { arc = arc; depart = point }), rule (record { arc = arc; depart = until }))

pub returns-then-keep_at_span_ends : goal.returns-then-keep_at_span_ends
returns-then-keep_at_span_ends c =
    let p : Problem = c.args.instance.now in
    let spans : List ClassSpan = c.args.spans.now in
    let gifts : List Gift = c.args.gifts.now in
    let BySpan : ClassSpan → Type 0 = λ s. KeepsAtEnds p spans gifts s.arc s.point s.until in
    let ByGift : Gift → Type 0 = λ g. KeepsAtEnds p spans gifts g.arc g.point g.until in (
      λ yes class.
          keeps-arc p spans gifts class.arc class.depart (recursion_from_All BySpan spans (c.keep_at_span_ends.ensures.0 c.if-keep_at_span_ends.true))
          (recursion_from_All ByGift gifts (c.keep_at_gift_ends.ensures.0 yes)),
      λ rule.
          c.keep_at_gift_ends.ensures.1
          (λ k d inside.
          let gift : Gift = slice_index_or gifts k d in
          at_ends p spans gifts rule gift.arc gift.point gift.until),
    )
