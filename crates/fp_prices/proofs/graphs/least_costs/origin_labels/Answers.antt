use Rattle.std.proofs.Common.{◌≡◌, ℕ, ap, ◌∙◌, subst, arith}
use Rattle.std.specs.Prelude.{IfOk}
use Rattle.fp_labels.specs.Graphs.{Shape}
use Rattle.fp_labels.specs.Labels.{AreLabels}
use Rattle.fp_model.specs.declared.parts.Shipment.{Shipment}
use Rattle.fp_model.specs.Numbered.{shipment_at}
use Rattle.fp_prices.specs.PointGraphs.{IsPointGraph}
use Rattle.fp_prices.specs.Points.{first_node, shape_of}
use Rattle.fp_prices.proofs.OriginLabels.{are-ends, first-read}
use Rattle.fp_prices.proofs.graphs.least_costs.origin_labels.Goals as goal

pub distances-requires-clause-inside : goal.distances-requires-clause-inside
distances-requires-clause-inside c =
    let p = c.args.over.now.pricing.now.instance.now in
    let net = c.args.over.now.pricing.now.network.now in
    let g : IsPointGraph p net c.args.over.now.graph.now = c.requires.graph in
    let ends = are-ends p net c.args.shipment c.shipment.ensures.valid g.whole c.requires.shipment in
    let from : c.shipment.result.now.from ≡ (shipment_at p c.args.shipment).from = ap (λ (s : Shipment). s.from) c.shipment.ensures.same in
    let start : c.index-start.result.now ≡ first_node net c.shipment.result.now.from =
    first-read net c.args.over.now.graph.now.firsts.items c.shipment.result.now.from c.index-start.result.now g.firsts (omega (arith, ends.from, from)) c.index-start.ensures in
    omega (arith, ends.first, start, ap (first_node net) from, ap (λ (s : Shape). s.nodes) g.shape)

pub returns : goal.returns
returns c =
    let p = c.args.over.now.pricing.now.instance.now in
    let net = c.args.over.now.pricing.now.network.now in
    let g : IsPointGraph p net c.args.over.now.graph.now = c.requires.graph in
    let ends = are-ends p net c.args.shipment c.shipment.ensures.valid g.whole c.requires.shipment in
    let from : c.shipment.result.now.from ≡ (shipment_at p c.args.shipment).from = ap (λ (s : Shipment). s.from) c.shipment.ensures.same in
    let start : c.index-start.result.now ≡ first_node net c.shipment.result.now.from =
    first-read net c.args.over.now.graph.now.firsts.items c.shipment.result.now.from c.index-start.result.now g.firsts (omega (arith, ends.from, from)) c.index-start.ensures in
    subst (λ (n : ℕ). IfOk c.distances.result (AreLabels (shape_of p net) c.args.costs.now n)) (start ∙ ap (first_node net) from)
    (subst (λ (s : Shape). IfOk c.distances.result (AreLabels s c.args.costs.now c.index-start.result.now)) g.shape c.distances.ensures)
