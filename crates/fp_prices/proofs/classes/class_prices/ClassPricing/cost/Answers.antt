use Rattle.std.proofs.Common.{◌≡◌, ℕ, ◌*◌, sym, ap, ◌∙◌, arith}
use Rattle.fp_model.specs.declared.parts.Arc.{Arc}
use Rattle.fp_model.specs.declared.parts.Leg.{Leg}
use Rattle.fp_model.specs.Numbered.{shipment_at}
use Rattle.fp_model.specs.Problem.{arc_at}
use Rattle.fp_allowed.specs.Listing.{class_at}
use Rattle.fp_allowed.proofs.ListedClasses.{class_at-number}
use Rattle.fp_longestarcs.proofs.ClassNumbers.{number-within}
use Rattle.fp_prices.specs.Leaves.{leaf_price}
use Rattle.fp_prices.proofs.PricedClasses.{leaf-fits}
use Rattle.fp_prices.proofs.classes.class_prices.ClassPricing.cost.Goals as goal

pub overflow_add-result : goal.overflow_add-result
overflow_add-result c =
    let pricing = c.args.self.now in
    let p = pricing.instance.now in
    let net = pricing.network.now in
    let number : ℕ = c.args.arc in
    let flow : c.from.result * c.from-2.result * c.from-3.result ≡ p.scale * (arc_at p number).freight * c.args.size =
    ap (λ (n : ℕ). n * c.from-2.result * c.from-3.result) (c.from.ensures ∙ c.scale.ensures.same) ∙
    ap (λ (n : ℕ). p.scale * n * c.from-3.result) (c.from-2.ensures ∙ ap (λ (a : Arc). a.freight) c.arc-freight.ensures.same) ∙
    ap (λ (n : ℕ). p.scale * (arc_at p number).freight * n) c.from-3.ensures in
    let priced = c.requires.priced in
    let arc : (class_at net c.args.class).arc ≡ number =
    ap (λ (l : Leg). l.arc) (ap (class_at net) c.requires.number ∙ class_at-number net (record { arc = number; depart = c.args.point }) priced.is.whole.valid c.requires.class) in
    let freight : p.scale * (arc_at p number).freight * c.args.size ≡ p.scale * (arc_at p (class_at net c.args.class).arc).freight * (shipment_at p c.args.shipment).size =
    ap (λ (a : ℕ). p.scale * (arc_at p a).freight * c.args.size) (sym arc) ∙ ap (λ (n : ℕ). p.scale * (arc_at p (class_at net c.args.class).arc).freight * n) c.requires.size in
    let price : c.price.result ≡ leaf_price p priced.tables priced.allowed priced.kind priced.chains c.args.shipment (shipment_at p c.args.shipment).size (class_at net c.args.class) =
    c.price.ensures priced.tables priced.allowed priced.kind priced.chains priced.is
    ∙ ap (λ (n : ℕ). leaf_price p priced.tables priced.allowed priced.kind priced.chains c.args.shipment n (class_at net c.args.class)) c.requires.size in
    omega (arith, flow, freight, price, leaf-fits pricing c.args.shipment c.args.class c.requires.shipment (omega (arith, c.requires.number, number-within net (record { arc = number; depart = c.args.point }) priced.is.whole.valid c.requires.class)) priced)

pub returns : goal.returns
returns c = λ tables allowed kind chains is allows.
    let pricing = c.args.self.now in
    let p = pricing.instance.now in
    let net = pricing.network.now in
    let number : ℕ = c.args.arc in
    let flow : c.from.result * c.from-2.result * c.from-3.result ≡ p.scale * (arc_at p number).freight * c.args.size =
    ap (λ (n : ℕ). n * c.from-2.result * c.from-3.result) (c.from.ensures ∙ c.scale.ensures.same) ∙
    ap (λ (n : ℕ). p.scale * n * c.from-3.result) (c.from-2.ensures ∙ ap (λ (a : Arc). a.freight) c.arc-freight.ensures.same) ∙
    ap (λ (n : ℕ). p.scale * (arc_at p number).freight * n) c.from-3.ensures in
    let arc : (class_at net c.args.class).arc ≡ number =
    ap (λ (l : Leg). l.arc) (ap (class_at net) c.requires.number ∙ class_at-number net (record { arc = number; depart = c.args.point }) is.whole.valid c.requires.class) in
    let freight : p.scale * (arc_at p number).freight * c.args.size ≡ p.scale * (arc_at p (class_at net c.args.class).arc).freight * c.args.size = ap (λ (a : ℕ). p.scale * (arc_at p a).freight * c.args.size) (sym arc) in
    let price = c.price.ensures tables allowed kind chains is in
    omega (arith, flow, freight, price)
