use Rattle.std.proofs.Common.{arith, ◌∙◌}
use Rattle.std.specs.BinaryHeap.{heap_items}
use Rattle.fp_prices_spans.proofs.EndMoney.{popped}
use Rattle.fp_prices_spans.proofs.rules.held_money.HeldMoney.release.Goals as goal

pub overflow_sub-self : goal.overflow_sub-self
overflow_sub-self c =
    let e = c.in-Some.ensures.some in
    let gone = popped (heap_items c.loop-money.self.ends) (heap_items c.pop_ended.new.ends) e.0 c.in-Some.money c.args.moment c.loop-money.self.total e.1 e.2 e.3 c.loop-money.invariant.counted.total_is in
    omega (arith, gone.0)

pub loop-money-preserved : goal.loop-money-preserved
loop-money-preserved c =
    let e = c.in-Some.ensures.some in
    let gone = popped (heap_items c.loop-money.self.ends) (heap_items c.pop_ended.new.ends) e.0 c.in-Some.money c.args.moment c.loop-money.self.total e.1 e.2 e.3 c.loop-money.invariant.counted.total_is in
    record {
      counted = record { ordered = e.3; total_is = omega (arith, gone.1) };
      same = λ m from. gone.2 m from ∙ c.loop-money.invariant.same m from;
    }
