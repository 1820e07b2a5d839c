use Rattle.std.proofs.Common.{arith}
use Rattle.fp_longestarcs.specs.Stops.{legs_of}
use Rattle.fp_prices.proofs.CostBounds.{classes-fit}
use Rattle.fp_prices.proofs.PreferredWalks.{prefer_ok}
use Rattle.fp_prices.proofs.ShipmentCosts.{classes-priced}
use Rattle.fp_prices.proofs.ShipmentSearches.{search-over, still-free}
use Rattle.fp_prices.proofs.WalksSoFar.{walk_ok}
use Rattle.fp_prices.proofs.values.leaf_walks.shipment_walk.Goals as goal

pub fill_costs-requires-clause-room : goal.fill_costs-requires-clause-room
fill_costs-requires-clause-room c = omega (arith, c.requires.edges, classes-fit c.args.over.now.pricing.now.instance.now c.args.over.now.pricing.now.network.now c.args.over.now.graph.now c.requires.graph)

pub fill_costs-requires-clause-priced : goal.fill_costs-requires-clause-priced
fill_costs-requires-clause-priced c = classes-priced c.args.over.now.pricing.now c.args.shipment c.args.row.now c.requires.priced c.requires.long

pub least_walk-requires : goal.least_walk-requires
least_walk-requires c =
    search-over c.args.over.now c.args.shipment c.args.row.now c.args.costs.now c.fill_costs.new.costs c.requires c.fill_costs.auto.costs c.fill_costs.ensures.costs c.fill_costs.ensures.others

pub returns-clause-free : goal.returns-clause-free
returns-clause-free c = still-free c.args.over.now c.args.shipment c.args.row.now c.args.costs.now c.fill_costs.new.costs c.requires c.fill_costs.auto.costs c.fill_costs.ensures.others

pub returns-clause-exact : goal.returns-clause-exact
returns-clause-exact c =
    walk_ok c.args.over.now.pricing.now c.args.shipment c.args.row.now c.fill_costs.new.costs c.least_walk.result c.fill_costs.ensures.costs c.least_walk.ensures.least

pub returns-clause-preferred : goal.returns-clause-preferred
returns-clause-preferred c =
    prefer_ok c.args.over.now.pricing.now c.args.shipment c.args.row.now c.fill_costs.new.costs (legs_of c.args.preferred.now) c.least_walk.result c.fill_costs.ensures.costs c.least_walk.ensures.preferred
