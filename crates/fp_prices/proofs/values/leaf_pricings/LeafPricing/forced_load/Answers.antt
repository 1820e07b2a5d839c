use Rattle.std.proofs.Common.{◌∙◌, subst, arith}
use Rattle.std.proofs.lemmas.List.{get_or_read}
use Rattle.fp_prices.specs.LeafPricings.{IsLeafPricing, PricingModel}
use Rattle.fp_prices.proofs.LeafPricings.{forced-none, forced-some}
use Rattle.fp_prices.proofs.PricedClasses.{bit-read}
use Rattle.fp_prices.proofs.values.leaf_pricings.LeafPricing.forced_load.Goals as goal

pub returns-then-get : goal.returns-then-get
returns-then-get c =
    let pricing = c.self.inside.pricing in
    let is = subst (λ (m : PricingModel). IsLeafPricing m pricing) c.self.view_is c.self.invariant in
    forced-some c.args.self.now pricing is c.args.class c.requires c.index.result.now
    (bit-read pricing.forced.row c.args.class c.get.result c.get.ensures ∙ c.if-get.true)
    (get_or_read pricing.forced.loads.items c.args.class c.index.result.now (omega (arith, is.forced.loads_long, c.requires)) c.index.ensures 0)

pub returns-else-get : goal.returns-else-get
returns-else-get c =
    let pricing = c.self.inside.pricing in
    let is = subst (λ (m : PricingModel). IsLeafPricing m pricing) c.self.view_is c.self.invariant in
    forced-none c.args.self.now pricing is c.args.class c.requires (bit-read pricing.forced.row c.args.class c.get.result c.get.ensures ∙ c.if-get.false)
