use Rattle.std.proofs.Common.{ℕ, sym, ap, ◌∙◌, subst, arith}
use Rattle.fp_model.specs.declared.parts.Shipment.{Shipment}
use Rattle.fp_allowed.specs.Bits.{bit_of}
use Rattle.fp_allowed.specs.Listing.{class_at}
use Rattle.fp_prices.specs.ClassCosts.{HoldsClassCosts}
use Rattle.fp_prices.specs.Leaves.{leaf_price}
use Rattle.fp_prices.proofs.FilledCosts.{filled_all, filled_more}
use Rattle.fp_prices.proofs.NumberedClasses.{number-class}
use Rattle.fp_prices.proofs.SetBits.{next-set, none-set}
use Rattle.fp_prices.proofs.classes.class_prices.ClassPricing.fill_costs.Goals as goal

pub cost-requires-clause-priced : goal.cost-requires-clause-priced
cost-requires-clause-priced c =
    let next = next-set c.args.row.now c.loop-class.next c.in-Some.class c.in-Some.ensures in
    c.requires.priced c.in-Some.class next.set_it

pub loop-class-preserved : goal.loop-class-preserved
loop-class-preserved c =
    let pricing = c.args.self.now in
    let net = pricing.network.now in
    let next = next-set c.args.row.now c.loop-class.next c.in-Some.class c.in-Some.ensures in
    filled_more pricing c.args.shipment c.shipment.result.now.size c.args.row.now c.clear.new.costs c.loop-class.costs c.loop-class.next c.in-Some.class c.cost.result c.loop-class.invariant next
    (omega (arith, c.requires.long, c.requires.room, c.clear.auto.costs)) c.cost.ensures
    (λ allowed allows.
    let is = number-class net c.in-Some.class c.classes.ensures.valid (omega (arith, next.within, c.requires.long)) in
    sym (allows (class_at net c.in-Some.class) is.0) ∙ ap (bit_of c.args.row.now) is.1 ∙ next.set_it)

pub returns-clause-costs : goal.returns-clause-costs
returns-clause-costs c = λ tables allowed kind chains is allows.
    let pricing = c.args.self.now in
    let p = pricing.instance.now in
    let k : ℕ = c.args.shipment in
    let all = filled_all pricing c.args.shipment c.shipment.result.now.size c.args.row.now c.clear.new.costs c.loop-class.costs c.loop-class.next c.loop-class.invariant
    (none-set c.args.row.now c.loop-class.next c.in_default.ensures) (λ n h. c.clear.ensures.cleared n (omega (arith, c.classes.ensures.count, h))) tables allowed kind chains is allows in
    subst (λ (s : Shipment). HoldsClassCosts p pricing.network.now (allowed k) (leaf_price p tables allowed kind chains k s.size) s.size c.loop-class.costs) c.shipment.ensures.same all
