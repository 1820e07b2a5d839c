use Rattle.std.proofs.Common.{◌∙◌}
use Rattle.fp_prices.proofs.OriginLabels.{cost-least, cost-small}
use Rattle.fp_prices.proofs.graphs.least_costs.least_cost.Goals as goal

pub returns-clause-exact : goal.returns-clause-exact
returns-clause-exact c = λ allowed price classes holds.
    let g = c.requires.graph in
    cost-least c.args.over.now.pricing.now.instance.now c.args.over.now.pricing.now.network.now c.args.shipment c.args.costs.now c.in_ok-labels.labels c.end_node.ensures.valid g.whole c.requires.shipment c.in_ok-labels.ensures c.end_node.result c.end_node.ensures.node
    allowed price (record { valid = c.end_node.ensures.valid; whole = g.whole; count = c.requires.count ∙ g.count; free = c.requires.free; classes = classes; holds = holds }) c.to.result c.to.ensures.label

pub returns-clause-small : goal.returns-clause-small
returns-clause-small c = λ most all.
    let g = c.requires.graph in
    cost-small c.args.over.now.pricing.now.instance.now c.args.over.now.pricing.now.network.now c.args.shipment c.args.costs.now c.in_ok-labels.labels c.end_node.ensures.valid g.whole c.requires.shipment c.in_ok-labels.ensures c.end_node.result c.end_node.ensures.node
    most all c.to.result c.to.ensures.label
