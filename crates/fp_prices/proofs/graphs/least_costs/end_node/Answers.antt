use Rattle.std.proofs.Common.{ap, ◌∙◌, arith}
use Rattle.fp_model.specs.declared.parts.Shipment.{Shipment}
use Rattle.fp_prices.specs.Points.{last_node}
use Rattle.fp_prices.proofs.OriginLabels.{are-ends}
use Rattle.fp_prices.proofs.graphs.least_costs.end_node.Goals as goal

pub returns-clause-exists : goal.returns-clause-exists
returns-clause-exists c =
    let p = c.args.over.now.pricing.now.instance.now in
    let net = c.args.over.now.pricing.now.network.now in
    let ends = are-ends p net c.args.shipment c.shipment.ensures.valid c.requires.graph.whole c.requires.shipment in
    omega (arith, ends.last, c.last_node_of.ensures ∙ ap (λ (s : Shipment). last_node net s.to) c.shipment.ensures.same)
