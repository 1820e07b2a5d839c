use Rattle.std.proofs.Common.{◌∙◌, subst}
use Rattle.fp_model.specs.declared.parts.Shipment.{Shipment}
use Rattle.fp_allowed.specs.Bits.{IsRowUnder}
use Rattle.fp_allowed.specs.Listing.{class_at}
use Rattle.fp_prices.specs.LeafPricings.{IsLeafPricing, PricingModel}
use Rattle.fp_prices.specs.Pricings.{IsClassPrice}
use Rattle.fp_prices.proofs.LeafPricings.{class-priced, price-none, price-some}
use Rattle.fp_prices.proofs.PricedClasses.{bit-read}
use Rattle.fp_prices.proofs.values.leaf_pricings.LeafPricing.price.Goals as goal

pub price-requires-clause-priced : goal.price-requires-clause-priced
price-requires-clause-priced c =
    let pricing = c.self.inside.pricing in
    let is = subst (λ (m : PricingModel). IsLeafPricing m pricing) c.self.view_is c.self.invariant in
    let under = subst (λ (m : PricingModel). IsRowUnder m.leaf.setting m.leaf.sides c.args.shipment c.row.result.now) c.self.view_is c.row.ensures in
    class-priced c.args.self.now pricing is c.args.class c.requires.class c.args.shipment c.row.result.now under (bit-read c.row.result.now c.args.class c.get.result c.get.ensures ∙ c.if-get.true)

pub returns-then-get : goal.returns-then-get
returns-then-get c =
    let pricing = c.self.inside.pricing in
    let is = subst (λ (m : PricingModel). IsLeafPricing m pricing) c.self.view_is c.self.invariant in
    let under = subst (λ (m : PricingModel). IsRowUnder m.leaf.setting m.leaf.sides c.args.shipment c.row.result.now) c.self.view_is c.row.ensures in
    price-some c.args.self.now pricing is c.args.class c.requires.class c.args.shipment c.row.result.now under c.price.result (bit-read c.row.result.now c.args.class c.get.result c.get.ensures ∙ c.if-get.true)
    (subst (λ (s : Shipment). IsClassPrice pricing c.args.shipment s.size (class_at pricing.network.now c.args.class) c.price.result) c.shipment.ensures.same c.price.ensures)

pub returns-else-get : goal.returns-else-get
returns-else-get c =
    let pricing = c.self.inside.pricing in
    let is = subst (λ (m : PricingModel). IsLeafPricing m pricing) c.self.view_is c.self.invariant in
    let under = subst (λ (m : PricingModel). IsRowUnder m.leaf.setting m.leaf.sides c.args.shipment c.row.result.now) c.self.view_is c.row.ensures in
    price-none c.args.self.now pricing is c.args.class c.requires.class c.args.shipment c.row.result.now under (bit-read c.row.result.now c.args.class c.get.result c.get.ensures ∙ c.if-get.false)
