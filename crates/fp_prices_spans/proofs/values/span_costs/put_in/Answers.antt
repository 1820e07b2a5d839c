use Rattle.std.proofs.Common.{ℕ, get_or, ap, ◌∙◌, arith}
use Rattle.std.specs.Prelude.{None, Option}
use Rattle.std.specs.Option.{option_map}
use Rattle.fp_longestarcs.proofs.ClassNumbers.{few-classes}
use Rattle.fp_prices.proofs.SetBits.{next-set, none-set, rewritten_all, rewritten_more, rewritten_none}
use Rattle.fp_prices_spans.specs.SpanCosts.{cost_at}
use Rattle.fp_prices_spans.proofs.values.span_costs.put_in.Goals as goal

pub loop-class-init : goal.loop-class-init
loop-class-init c = rewritten_none (λ n. option_map (λ _. cost_at c.args.instance.now c.args.network.now c.args.prices.now c.args.shipment n)) None c.args.row.now c.args.costs.now

pub loop-class-preserved : goal.loop-class-preserved
loop-class-preserved c =
    let f : ℕ → Option ℕ → Option ℕ = λ n. option_map (λ _. cost_at c.args.instance.now c.args.network.now c.args.prices.now c.args.shipment n) in
    let place : ℕ = c.in-Some.class in
    let next = next-set c.args.row.now c.loop-class.next place c.in-Some.ensures in
    rewritten_more f None c.args.row.now c.args.costs.now c.loop-class.costs c.loop-class.next place c.replaced.result c.loop-class.invariant next (omega (arith, c.requires.row, c.requires.room))
    (c.replaced.ensures ∙ ap (λ (n : ℕ). option_map (λ (_ : ℕ). n) (get_or c.loop-class.costs place None)) c.class_cost-cost.ensures ∙ ap (f place) (c.loop-class.invariant.after place next.from))

pub overflow_add-next : goal.overflow_add-next
overflow_add-next c =
    let next = next-set c.args.row.now c.loop-class.next c.in-Some.class c.in-Some.ensures in
    omega (arith, next.within, c.requires.row, few-classes c.args.network.now c.requires.whole.valid)

pub returns : goal.returns
returns c n =
    rewritten_all (λ m. option_map (λ _. cost_at c.args.instance.now c.args.network.now c.args.prices.now c.args.shipment m)) None c.args.row.now c.args.costs.now c.loop-class.costs c.loop-class.next c.loop-class.invariant
    (none-set c.args.row.now c.loop-class.next c.in_default.ensures) n
