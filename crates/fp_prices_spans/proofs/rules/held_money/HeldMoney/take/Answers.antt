use Rattle.std.proofs.Common.{◌≡◌, ℕ, ◌∷◌, arith, refl, ap, subst}
use Rattle.std.specs.Prelude.{IsPermutation}
use Rattle.std.specs.BinaryHeap.{heap_items}
use Rattle.std.proofs.lemmas.Bool.{false≢true}
use Rattle.fp_prices_spans.specs.HeldMoney.{AreLeft}
use Rattle.fp_prices_spans.specs.Spans.{ClassSpan}
use Rattle.fp_prices_spans.proofs.EndMoney.{taken-money, taken-tells}
use Rattle.fp_prices_spans.proofs.rules.held_money.HeldMoney.take.Goals as goal

pub returns-in-None-clause-within : goal.returns-in-None-clause-within
returns-in-None-clause-within c spans told =
    let left : AreLeft c.args.span.now.point (heap_items c.args.self.now.ends) (heap_items c.release.new.self.ends) c.release.new.self.total =
    subst (λ (point : ℕ). AreLeft point (heap_items c.args.self.now.ends) (heap_items c.release.new.self.ends) c.release.new.self.total) (ap (λ (s : ClassSpan). s.point) c.span.view_is) c.release.ensures in
    let money = taken-money spans c.args.span.now (heap_items c.args.self.now.ends) (heap_items c.release.new.self.ends) c.args.self.now.total c.release.new.self.total told left in (
      λ h. absurd (false≢true h),
      λ le. absurd (omega (arith, le, money, c.in-None.ensures, c.held_money-money.ensures)),
    )

pub returns-in_ok-push-in-Some-clause-within : goal.returns-in_ok-push-in-Some-clause-within
returns-in_ok-push-in-Some-clause-within c spans told =
    let left : AreLeft c.args.span.now.point (heap_items c.args.self.now.ends) (heap_items c.release.new.self.ends) c.release.new.self.total =
    subst (λ (point : ℕ). AreLeft point (heap_items c.args.self.now.ends) (heap_items c.release.new.self.ends) c.release.new.self.total) (ap (λ (s : ClassSpan). s.point) c.span.view_is) c.release.ensures in
    let money = taken-money spans c.args.span.now (heap_items c.args.self.now.ends) (heap_items c.release.new.self.ends) c.args.self.now.total c.release.new.self.total told left in (
      λ _. omega (arith, money, c.in-Some.ensures.0, c.in-Some.ensures.1, c.held_money-money.ensures),
      λ _. refl,
    )

pub returns-in_ok-push-in-Some-clause-tells : goal.returns-in_ok-push-in-Some-clause-tells
returns-in_ok-push-in-Some-clause-tells c spans told _ =
    let left : AreLeft c.args.span.now.point (heap_items c.args.self.now.ends) (heap_items c.release.new.self.ends) c.release.new.self.total =
    subst (λ (point : ℕ). AreLeft point (heap_items c.args.self.now.ends) (heap_items c.release.new.self.ends) c.release.new.self.total) (ap (λ (s : ClassSpan). s.point) c.span.view_is) c.release.ensures in
    let span : ClassSpan = c.args.span.now in
    let until : c.span.inside.until ≡ span.until = ap (λ (s : ClassSpan). s.until) c.span.view_is in
    let pushed = c.in_ok-push-in-Some.ensures in
    taken-tells spans span (heap_items c.args.self.now.ends) (heap_items c.release.new.self.ends) c.args.self.now.total c.release.new.self.total told left (heap_items c.push.new.self) c.in-Some.total
    (subst (λ (money : ℕ). IsPermutation (record { 0 = (span.until, money) } ∷ heap_items c.release.new.self.ends) (heap_items c.push.new.self)) c.held_money-money.ensures
    (subst (λ (at : ℕ). IsPermutation (record { 0 = (at, c.held_money-money.result) } ∷ heap_items c.release.new.self.ends) (heap_items c.push.new.self)) until pushed.permutation))
    (pushed.heap_order c.release.ensures.counted.ordered)
    (omega (arith, c.in-Some.ensures.0, c.held_money-money.ensures))
