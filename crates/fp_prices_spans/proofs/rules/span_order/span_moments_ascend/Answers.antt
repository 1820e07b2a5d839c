use Rattle.std.proofs.Common.{ℕ, ◌<◌, List, length, refl, subst, arith}
use Rattle.std.specs.Prelude.{All}
use Rattle.std.proofs.lemmas.List.{take_all}
use Rattle.std.proofs.lemmas.List.Elements.{All-more}
use Rattle.fp_prices_spans.specs.SpanLists.{AscendBetween, MomentsAscend}
use Rattle.fp_prices_spans.proofs.rules.span_order.span_moments_ascend.Goals as goal

pub loop-span-preserved : goal.loop-span-preserved
loop-span-preserved c =
    let here : c.loop-span.span-index < length c.args.spans.now = omega (arith, c.loop-span-test.true) in
    All-more MomentsAscend c.args.spans.now c.loop-span.span-index c.span-item.result here c.loop-span.invariant
    (subst MomentsAscend c.span-item.is
    (subst MomentsAscend c.span.view_is
    (subst (λ (l : List ℕ). AscendBetween c.span.inside.point l c.span.inside.until) c.deref.ensures.value (c.ascend_between.ensures.0 c.if-not-ascend_between.false))))

pub returns : goal.returns
returns c = (
  λ _. subst (All MomentsAscend) (take_all c.loop-span.span-index c.args.spans.now (omega (arith, c.loop-span-test.false))) c.loop-span.invariant,
  λ _. refl,
)
