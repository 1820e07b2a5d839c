use Rattle.std.proofs.Common.{◌≡◌, ℕ, ◌+◌, ◌*◌, get_or, sym, ap, ◌∙◌}
use Rattle.fp_model.specs.declared.parts.Arc.{Arc}
use Rattle.fp_model.specs.declared.parts.Leg.{Leg}
use Rattle.fp_model.specs.declared.parts.Shipment.{Shipment}
use Rattle.fp_model.specs.Numbered.{shipment_at}
use Rattle.fp_model.specs.Problem.{arc_at}
use Rattle.fp_allowed.specs.Listing.{class_at}
use Rattle.fp_allowed.proofs.ListedClasses.{class_at-number}
use Rattle.fp_prices_spans.proofs.values.span_costs.class_cost.Goals as goal

pub returns : goal.returns
returns c =
    let p = c.args.instance.now in
    let net = c.args.network.now in
    let number : ℕ = c.of_class.result.0 in
    let here : Leg = record { arc = number; depart = c.of_class.result.1 } in
    let at : (class_at net c.args.class).arc ≡ number = ap (λ (l : Leg). l.arc) (ap (class_at net) (sym c.of_class.ensures.number) ∙ class_at-number net here c.requires.whole.valid c.of_class.ensures.is) in
    let size : ℕ = (shipment_at p c.args.shipment).size in
    let flow : c.from.result * c.from-2.result * c.from-3.result ≡ p.scale * (arc_at p (class_at net c.args.class).arc).freight * size =
    ap (λ (n : ℕ). n * c.from-2.result * c.from-3.result) (c.from.ensures ∙ c.scale.ensures.same)
    ∙ ap (λ (n : ℕ). p.scale * n * c.from-3.result) (c.from-2.ensures ∙ ap (λ (a : Arc). a.freight) c.arc-arc.ensures.same)
    ∙ ap (λ (n : ℕ). p.scale * (arc_at p number).freight * n) (c.from-3.ensures ∙ ap (λ (s : Shipment). s.size) c.shipment.ensures.same)
    ∙ ap (λ (a : ℕ). p.scale * (arc_at p a).freight * size) (sym at) in
    ap (λ (n : ℕ). get_or c.args.prices.now c.args.class 0 + n) flow
