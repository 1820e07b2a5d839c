use Rattle.std.proofs.Common.{arith}
use Rattle.fp_longestarcs.specs.Networks.{point_count}
use Rattle.fp_prices.proofs.CostBounds.{classes-fit}
use Rattle.fp_prices.proofs.ShipmentCosts.{classes-priced, exact_ok, small_ok}
use Rattle.fp_prices.proofs.ShipmentSearches.{filled-small, search-over, still-free}
use Rattle.fp_prices.proofs.values.bounds.shipment_cost.Goals as goal

pub fill_costs-requires-clause-room : goal.fill_costs-requires-clause-room
fill_costs-requires-clause-room c = omega (arith, c.requires.edges, classes-fit c.args.over.now.pricing.now.instance.now c.args.over.now.pricing.now.network.now c.args.over.now.graph.now c.requires.graph)

pub fill_costs-requires-clause-priced : goal.fill_costs-requires-clause-priced
fill_costs-requires-clause-priced c = classes-priced c.args.over.now.pricing.now c.args.shipment c.args.row.now c.requires.priced c.requires.long

pub least_cost-requires : goal.least_cost-requires
least_cost-requires c =
    search-over c.args.over.now c.args.shipment c.args.row.now c.args.costs.now c.fill_costs.new.costs c.requires c.fill_costs.auto.costs c.fill_costs.ensures.costs c.fill_costs.ensures.others

pub returns-clause-free : goal.returns-clause-free
returns-clause-free c = still-free c.args.over.now c.args.shipment c.args.row.now c.args.costs.now c.fill_costs.new.costs c.requires c.fill_costs.auto.costs c.fill_costs.ensures.others

pub returns-clause-small : goal.returns-clause-small
returns-clause-small c =
    small_ok c.args.over.now.pricing.now.instance.now c.args.shipment (point_count c.args.over.now.pricing.now.network.now) c.fill_costs.new.costs c.least_cost.result c.requires.graph.few
    (filled-small c.args.over.now c.args.shipment c.args.row.now c.args.costs.now c.fill_costs.new.costs c.requires c.fill_costs.auto.costs c.fill_costs.ensures.costs c.fill_costs.ensures.others)
    c.least_cost.ensures.small

pub returns-clause-exact : goal.returns-clause-exact
returns-clause-exact c =
    exact_ok c.args.over.now.pricing.now c.args.shipment c.args.row.now c.fill_costs.new.costs c.least_cost.result c.fill_costs.ensures.costs c.least_cost.ensures.exact
