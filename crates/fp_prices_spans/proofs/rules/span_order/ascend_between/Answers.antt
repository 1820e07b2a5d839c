use Rattle.std.proofs.Common.{◌≡◌, ℕ, ◌+◌, ◌<◌, List, [], length, get_or, drop, drop-cons, add-one, arith}
use Rattle.std.specs.Prelude.{◌↔◌}
use Rattle.std.proofs.lemmas.Bool.{false≢true, lt-ltb, ltb-true}
use Rattle.std.proofs.lemmas.List.{drop_all}
use Rattle.fp_prices_spans.specs.SpanLists.{AscendBetween}
use Rattle.fp_prices_spans.proofs.rules.span_order.ascend_between.Goals as goal

-- of moments that are left the next one comes after the last, and the others ascend after it
next : (last until i : ℕ) (moments : List ℕ) → i < length moments →
    AscendBetween last (drop i moments) until ↔ ((last < get_or moments i 0) × AscendBetween (get_or moments i 0) (drop (i + 1) moments) until)
next last until i moments inside = rw (add-one, drop-cons moments i 0 inside) (λ h. h, λ h. h)

pub loop-moment-preserved : goal.loop-moment-preserved
loop-moment-preserved c =
    let step = next c.loop-moment.last c.args.until c.loop-moment.moment-index c.args.moments.now c.loop-moment-test.true in (
      λ h. (step.0 (c.loop-moment.invariant.0 h)).1,
      λ h. c.loop-moment.invariant.1 (step.1 (c.if-moment-last.false, h)),
    )

pub returns-then-moment-last : goal.returns-then-moment-last
returns-then-moment-last c =
    let step = next c.loop-moment.last c.args.until c.loop-moment.moment-index c.args.moments.now c.loop-moment-test.true in (
      λ h. absurd (false≢true h),
      λ h. absurd (omega (arith, (step.0 (c.loop-moment.invariant.0 h)).0, c.if-moment-last.true)),
    )

pub returns : goal.returns
returns c =
    let left : drop c.loop-moment.moment-index c.args.moments.now ≡ [] = drop_all c.loop-moment.moment-index c.args.moments.now c.loop-moment-test.false in
    let all = rw left at c.loop-moment.invariant in (
      λ h. all.1 (ltb-true c.loop-moment.last c.args.until h),
      λ h. lt-ltb c.loop-moment.last c.args.until (all.0 h),
    )
