use Rattle.std.proofs.Common.{subst, arith}
use Rattle.fp_allowed.specs.Bits.{IsRowUnder}
use Rattle.fp_prices.specs.LeafPricings.{IsLeafPricing, PricingModel}
use Rattle.fp_prices.proofs.LeafPricings.{class-priced, costs-are}
use Rattle.fp_prices.proofs.SetBits.{set-within}
use Rattle.fp_prices.proofs.values.leaf_pricings.LeafPricing.fill_costs.Goals as goal

pub fill_costs-requires-clause-priced : goal.fill_costs-requires-clause-priced
fill_costs-requires-clause-priced c = λ class yes.
    let pricing = c.self.inside.pricing in
    let is = subst (λ (m : PricingModel). IsLeafPricing m pricing) c.self.view_is c.self.invariant in
    let under = subst (λ (m : PricingModel). IsRowUnder m.leaf.setting m.leaf.sides c.args.shipment c.row.result.now) c.self.view_is c.row.ensures in
    class-priced c.args.self.now pricing is class (omega (arith, set-within c.row.result.now class yes, under.long)) c.args.shipment c.row.result.now under yes

pub returns-clause-costs : goal.returns-clause-costs
returns-clause-costs c =
    let pricing = c.self.inside.pricing in
    let is = subst (λ (m : PricingModel). IsLeafPricing m pricing) c.self.view_is c.self.invariant in
    let under = subst (λ (m : PricingModel). IsRowUnder m.leaf.setting m.leaf.sides c.args.shipment c.row.result.now) c.self.view_is c.row.ensures in
    costs-are c.args.self.now pricing is c.args.shipment c.row.result.now c.fill_costs.new.costs under c.fill_costs.ensures.costs
