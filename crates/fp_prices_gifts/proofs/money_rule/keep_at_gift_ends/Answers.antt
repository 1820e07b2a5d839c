use Rattle.std.proofs.Common.{false, refl, subst, arith}
use Rattle.std.specs.Prelude.{All}
use Rattle.std.proofs.lemmas.List.{take_all}
use Rattle.std.proofs.lemmas.List.Elements.{All-more}
use Rattle.fp_prices_gifts.specs.declared.gifts.Gift.{Gift}
use Rattle.fp_prices_gifts.specs.Gifts.{KeepsAtEnds}
use Rattle.fp_prices_gifts.proofs.money_rule.keep_at_gift_ends.Goals as goal

pub loop-gift-preserved : goal.loop-gift-preserved
loop-gift-preserved c =
    let none : Gift = record { arc = 0; point = 0; until = 0; least = false; amount = 0 } in
    let Keeps : Gift → Type 0 = λ g. KeepsAtEnds c.args.instance.now c.args.spans.now c.args.gifts.now g.arc g.point g.until in
    All-more Keeps c.args.gifts.now c.loop-gift.gift-index none (omega arith) c.loop-gift.invariant (c.keeps_at_ends.ensures.0 c.if-not-keeps_at_ends.false)

pub returns : goal.returns
returns c =
    let Keeps : Gift → Type 0 = λ g. KeepsAtEnds c.args.instance.now c.args.spans.now c.args.gifts.now g.arc g.point g.until in
    let all : All Keeps c.args.gifts.now = subst (All Keeps) (take_all c.loop-gift.gift-index c.args.gifts.now (omega arith)) c.loop-gift.invariant in
    (λ _. all, λ _. refl)
