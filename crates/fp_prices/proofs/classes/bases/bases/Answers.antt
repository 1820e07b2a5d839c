use Rattle.std.proofs.Common.{ℕ, ◌≡◌, ◌+◌, ◌*◌, sym, ap, ◌∙◌, arith}
use Rattle.fp_longestarcs.proofs.ClassNumbers.{few-classes}
use Rattle.fp_prices.specs.Forced.{truck_cost_at}
use Rattle.fp_base_lists.specs.Below.{sum_below}
use Rattle.fp_prices.proofs.ForcedSums.{part-fits, set_cost, sum_below-next, sum_below-rest}
use Rattle.fp_prices.proofs.SetBits.{next-set, none-set}
use Rattle.fp_prices.proofs.classes.bases.bases.Goals as goal

pub class_base-requires-clause-fits : goal.class_base-requires-clause-fits
class_base-requires-clause-fits c =
    let next = next-set c.args.forced.now.row c.loop-class.next c.in-Some.class c.in-Some.ensures in
    (part-fits c.args.instance.now c.args.network.now c.args.forced.now.loads.items c.args.forced.now.row c.loop-class.next c.in-Some.class next c.scale.ensures.valid.scale.0 c.requires.fits).1

pub class_base-requires-clause-class : goal.class_base-requires-clause-class
class_base-requires-clause-class c =
    let next = next-set c.args.forced.now.row c.loop-class.next c.in-Some.class c.in-Some.ensures in
    omega (arith, next.within, c.requires.row)

pub overflow_mul-total : goal.overflow_mul-total
overflow_mul-total c =
    let next = next-set c.args.forced.now.row c.loop-class.next c.in-Some.class c.in-Some.ensures in
    let fits = part-fits c.args.instance.now c.args.network.now c.args.forced.now.loads.items c.args.forced.now.row c.loop-class.next c.in-Some.class next c.scale.ensures.valid.scale.0 c.requires.fits in
    let product : c.from-scale.result * c.class_base.result ≡ c.args.instance.now.scale * truck_cost_at c.args.instance.now c.args.network.now c.args.forced.now.loads.items c.in-Some.class =
    ap (λ (n : ℕ). n * c.class_base.result) (c.from-scale.ensures ∙ c.scale.ensures.same) ∙ ap (λ (n : ℕ). c.args.instance.now.scale * n) c.class_base.ensures in
    omega (arith, fits.0, product)

pub overflow_add-total : goal.overflow_add-total
overflow_add-total c =
    let next = next-set c.args.forced.now.row c.loop-class.next c.in-Some.class c.in-Some.ensures in
    let fits = part-fits c.args.instance.now c.args.network.now c.args.forced.now.loads.items c.args.forced.now.row c.loop-class.next c.in-Some.class next c.scale.ensures.valid.scale.0 c.requires.fits in
    let product : c.from-scale.result * c.class_base.result ≡ c.args.instance.now.scale * truck_cost_at c.args.instance.now c.args.network.now c.args.forced.now.loads.items c.in-Some.class =
    ap (λ (n : ℕ). n * c.class_base.result) (c.from-scale.ensures ∙ c.scale.ensures.same) ∙ ap (λ (n : ℕ). c.args.instance.now.scale * n) c.class_base.ensures in
    omega (arith, fits.0, product, c.loop-class.invariant.sum)

pub overflow_add-next : goal.overflow_add-next
overflow_add-next c =
    let next = next-set c.args.forced.now.row c.loop-class.next c.in-Some.class c.in-Some.ensures in
    omega (arith, next.within, c.requires.row, few-classes c.args.network.now c.requires.whole.valid)

pub loop-class-preserved : goal.loop-class-preserved
loop-class-preserved c =
    let p = c.args.instance.now in
    let loads = c.args.forced.now.loads.items in
    let row = c.args.forced.now.row in
    let next = next-set row c.loop-class.next c.in-Some.class c.in-Some.ensures in
    let product : c.from-scale.result * c.class_base.result ≡ p.scale * truck_cost_at p c.args.network.now loads c.in-Some.class =
    ap (λ (n : ℕ). n * c.class_base.result) (c.from-scale.ensures ∙ c.scale.ensures.same) ∙ ap (λ (n : ℕ). p.scale * n) c.class_base.ensures in
    let more : p.scale * sum_below (c.in-Some.class + 1) (set_cost p c.args.network.now loads row)
    ≡ p.scale * (sum_below c.loop-class.next (set_cost p c.args.network.now loads row) + truck_cost_at p c.args.network.now loads c.in-Some.class) =
    ap (λ (n : ℕ). p.scale * n) (sum_below-next p c.args.network.now loads row c.loop-class.next c.in-Some.class next) in
    record { within = omega (arith, next.within); sum = omega (arith, product, more, c.loop-class.invariant.sum) }

pub returns : goal.returns
returns c =
    let p = c.args.instance.now in
    let loads = c.args.forced.now.loads.items in
    let row = c.args.forced.now.row in
    c.loop-class.invariant.sum ∙ ap (λ (n : ℕ). p.scale * n) (sym (sum_below-rest p c.args.network.now loads row c.loop-class.next c.loop-class.invariant.within (none-set row c.loop-class.next c.in_default.ensures)))
