use Rattle.std.proofs.Common.{◌≡◌, ℕ, true, ◌*◌, ◌<◌, length, get_or, sym, ap, ◌∙◌, subst, arith}
use Rattle.std.specs.Prelude.{AllPairs}
use Rattle.std.proofs.lemmas.List.{get_or_read}
use Rattle.fp_model.specs.declared.parts.Leg.{Leg}
use Rattle.fp_model.specs.Numbered.{shipment_at}
use Rattle.fp_model.specs.Problem.{arc_at}
use Rattle.fp_longestarcs.specs.Networks.{class_count}
use Rattle.fp_longestarcs.proofs.ClassNumbers.{number-within}
use Rattle.fp_allowed.specs.Listing.{class_at}
use Rattle.fp_allowed.proofs.ListedClasses.{class_at-number}
use Rattle.fp_prices.specs.declared.classes.class_prices.Rule.{Rule}
use Rattle.fp_prices.specs.declared.leaf_prices.Kind.TheVariants.{Linear}
use Rattle.fp_prices.specs.declared.tables.Weight.{Weight}
use Rattle.fp_prices.specs.Prices.{linear_price, share_price, truck_price}
use Rattle.fp_prices.specs.Pricings.{IsRuleOf}
use Rattle.fp_prices.specs.Shares.{ClassShare}
use Rattle.fp_prices.proofs.PricedClasses.{class-exists, found-among, price-in_parts, priced-fits, rate-at, rule-ascending, rule-shares, rule-users, users-some}
use Rattle.fp_prices.proofs.classes.class_prices.ClassPricing.truck_price.Goals as goal

pub overflow_mul-linear : goal.overflow_mul-linear
overflow_mul-linear c =
    let pricing = c.args.self.now in
    let p = pricing.instance.now in
    let net = pricing.network.now in
    let here : Leg = record { arc = c.args.arc; depart = c.args.point } in
    let priced = c.requires.priced in
    let at : class_at net c.args.class ≡ here = ap (class_at net) c.requires.number ∙ class_at-number net here priced.is.whole.valid c.requires.class in
    let exists : c.args.arc < length p.arcs = class-exists p net here priced.is.whole c.requires.class in
    let linear : c.from.result * get_or pricing.rates.now c.args.arc 0 ≡ linear_price p.scale (arc_at p c.args.arc) (shipment_at p c.args.shipment).size =
    ap (λ (n : ℕ). n * get_or pricing.rates.now c.args.arc 0) (c.from.ensures ∙ c.requires.size)
    ∙ ap (λ (n : ℕ). (shipment_at p c.args.shipment).size * n) (rate-at p pricing.rates.now c.args.arc priced.is.rates exists) in
    let fits = priced-fits pricing c.args.shipment c.args.class here Linear c.requires.shipment priced at exists in
    omega (arith, linear, fits)

pub index-requires : goal.index-requires
index-requires c =
    let pricing = c.args.self.now in
    let p = pricing.instance.now in
    let net = pricing.network.now in
    let priced = c.requires.priced in
    let are = rule-users p net priced.tables priced.allowed priced.kind c.in-InParts.users (subst (λ (r : Rule). IsRuleOf p net priced.tables priced.allowed priced.kind r) c.in-InParts.is priced.is.rule) in
    omega (arith, c.requires.number, number-within net (record { arc = c.args.arc; depart = c.args.point }) priced.is.whole.valid c.requires.class, are.counts_long, c.in-InParts.users.counts.ok)

pub index-requires-in-InParts : goal.index-requires-in-InParts
index-requires-in-InParts c =
    let pricing = c.args.self.now in
    let p = pricing.instance.now in
    let net = pricing.network.now in
    let priced = c.requires.priced in
    let are = rule-users p net priced.tables priced.allowed priced.kind c.in-InParts.users (subst (λ (r : Rule). IsRuleOf p net priced.tables priced.allowed priced.kind r) c.in-InParts.is priced.is.rule) in
    omega (arith, c.requires.number, number-within net (record { arc = c.args.arc; depart = c.args.point }) priced.is.whole.valid c.requires.class, are.sizes_long, c.in-InParts.users.sizes.ok)

pub even_price-requires-clause-some : goal.even_price-requires-clause-some
even_price-requires-clause-some c =
    let pricing = c.args.self.now in
    let p = pricing.instance.now in
    let net = pricing.network.now in
    let here : Leg = record { arc = c.args.arc; depart = c.args.point } in
    let priced = c.requires.priced in
    let are = rule-users p net priced.tables priced.allowed priced.kind c.in-InParts.users (subst (λ (r : Rule). IsRuleOf p net priced.tables priced.allowed priced.kind r) c.in-InParts.is priced.is.rule) in
    let at : class_at net c.args.class ≡ here = ap (class_at net) c.requires.number ∙ class_at-number net here priced.is.whole.valid c.requires.class in
    let allows : priced.allowed c.args.shipment here ≡ true = subst (λ (e : Leg). priced.allowed c.args.shipment e ≡ true) at priced.allows in
    let inside : c.args.class < length c.in-InParts.users.counts.items = omega (arith, c.requires.number, number-within net here priced.is.whole.valid c.requires.class, are.counts_long) in
    let read = get_or_read c.in-InParts.users.counts.items c.args.class c.index.result.now inside c.index.ensures 0 in
    omega (
      arith,
      read,
      ap (λ (n : ℕ). get_or c.in-InParts.users.counts.items n 0) c.requires.number,
      users-some p net priced.allowed _ c.args.shipment c.in-InParts.users here are c.requires.class c.requires.shipment allows,
    )

pub share_price-requires-clause-weights : goal.share_price-requires-clause-weights
share_price-requires-clause-weights c =
    let pricing = c.args.self.now in
    let p = pricing.instance.now in
    let net = pricing.network.now in
    let priced = c.requires.priced in
    let rule = subst (λ (r : Rule). IsRuleOf p net priced.tables priced.allowed priced.kind r) c.in-ByShares.is priced.is.rule in
    let ascending = rule-ascending p net priced.tables priced.allowed priced.kind c.in-ByShares.shares rule in
    found-among (λ (s : ClassShare). AllPairs (λ (v w : Weight). v.shipment < w.shipment) s.weights) c.in-ByShares.shares.now (record { arc = c.args.arc; depart = c.args.point }) c.in-Some.share.now
    ascending.weights (sym c.in-Some.ensures)

pub share_price-requires-clause-fits : goal.share_price-requires-clause-fits
share_price-requires-clause-fits c =
    let pricing = c.args.self.now in
    let p = pricing.instance.now in
    let net = pricing.network.now in
    let here : Leg = record { arc = c.args.arc; depart = c.args.point } in
    let priced = c.requires.priced in
    let rule = subst (λ (r : Rule). IsRuleOf p net priced.tables priced.allowed priced.kind r) c.in-ByShares.is priced.is.rule in
    let at : class_at net c.args.class ≡ here = ap (class_at net) c.requires.number ∙ class_at-number net here priced.is.whole.valid c.requires.class in
    let exists : c.args.arc < length p.arcs = class-exists p net here priced.is.whole c.requires.class in
    let price : share_price c.in-Some.share.now c.args.shipment c.args.size ≡ truck_price p priced.tables priced.allowed priced.kind here c.args.shipment (shipment_at p c.args.shipment).size =
    rule-shares p net priced.tables priced.allowed priced.kind c.in-ByShares.shares here c.args.shipment c.args.size c.in-Some.share.now rule (sym c.in-Some.ensures)
    ∙ ap (truck_price p priced.tables priced.allowed priced.kind here c.args.shipment) c.requires.size in
    omega (arith, price, priced-fits pricing c.args.shipment c.args.class here priced.kind c.requires.shipment priced at exists)

pub returns-in-InParts : goal.returns-in-InParts
returns-in-InParts c = λ tables allowed kind chains is.
    let pricing = c.args.self.now in
    let p = pricing.instance.now in
    let net = pricing.network.now in
    let users = c.in-InParts.users in
    let here : Leg = record { arc = c.args.arc; depart = c.args.point } in
    let rule = subst (λ (r : Rule). IsRuleOf p net tables allowed kind r) c.in-InParts.is is.rule in
    let are = rule-users p net tables allowed kind users rule in
    let exists : c.args.arc < length p.arcs = class-exists p net here is.whole c.requires.class in
    let linear : c.from.result * get_or pricing.rates.now c.args.arc 0 ≡ linear_price p.scale (arc_at p c.args.arc) c.args.size =
    ap (λ (n : ℕ). n * get_or pricing.rates.now c.args.arc 0) c.from.ensures ∙ ap (λ (n : ℕ). c.args.size * n) (rate-at p pricing.rates.now c.args.arc is.rates exists) in
    let within : c.args.class < class_count net = omega (arith, c.requires.number, number-within net here is.whole.valid c.requires.class) in
    let count = get_or_read users.counts.items c.args.class c.index.result.now (omega (arith, within, are.counts_long)) c.index.ensures 0 in
    let all = get_or_read users.sizes.items c.args.class c.index-in-InParts.result.now (omega (arith, within, are.sizes_long)) c.index-in-InParts.ensures 0 in
    price-in_parts p net tables allowed kind users here c.args.shipment c.args.size c.index.result.now c.index-in-InParts.result.now c.even_price.result rule c.requires.class
    (count ∙ ap (λ (n : ℕ). get_or users.counts.items n 0) c.requires.number) (all ∙ ap (λ (n : ℕ). get_or users.sizes.items n 0) c.requires.number) (c.even_price.ensures c.args.size linear)
