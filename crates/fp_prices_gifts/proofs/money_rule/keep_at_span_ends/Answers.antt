use Rattle.std.proofs.Common.{refl, subst, arith}
use Rattle.std.specs.Prelude.{All}
use Rattle.std.proofs.lemmas.List.{take_all}
use Rattle.std.proofs.lemmas.List.Elements.{All-more}
use Rattle.fp_prices_spans.specs.Spans.{ClassSpan}
use Rattle.fp_prices_gifts.specs.Gifts.{KeepsAtEnds}
use Rattle.fp_prices_gifts.proofs.money_rule.keep_at_span_ends.Goals as goal

pub loop-span-preserved : goal.loop-span-preserved
loop-span-preserved c =
    let Keeps : ClassSpan → Type 0 = λ s. KeepsAtEnds c.args.instance.now c.args.spans.now c.args.gifts.now s.arc s.point s.until in
    let here : Keeps c.span-item.result = subst Keeps c.span.view_is (c.keeps_at_ends.ensures.0 c.if-not-keeps_at_ends.false) in
    All-more Keeps c.args.spans.now c.loop-span.span-index c.span-item.result (omega arith) c.loop-span.invariant (subst Keeps c.span-item.is here)

pub returns : goal.returns
returns c =
    let Keeps : ClassSpan → Type 0 = λ s. KeepsAtEnds c.args.instance.now c.args.spans.now c.args.gifts.now s.arc s.point s.until in
    let all : All Keeps c.args.spans.now = subst (All Keeps) (take_all c.loop-span.span-index c.args.spans.now (omega arith)) c.loop-span.invariant in
    (λ _. all, λ _. refl)
