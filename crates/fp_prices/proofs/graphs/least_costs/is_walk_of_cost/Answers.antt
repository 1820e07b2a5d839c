use Rattle.std.proofs.Common.{ap, arith}
use Rattle.fp_model.specs.declared.parts.Shipment.{Shipment}
use Rattle.fp_model.specs.Numbered.{shipment_at}
use Rattle.fp_longestarcs.specs.Networks.{points_in}
use Rattle.fp_longestarcs.specs.Stops.{legs_of}
use Rattle.fp_prices.proofs.CostBounds.{classes-fit}
use Rattle.fp_prices.proofs.WalkTests.{no-walk_of_cost, walk_of_cost}
use Rattle.fp_prices.proofs.graphs.least_costs.is_walk_of_cost.Goals as goal

pub is_timed_walk-requires-clause-long : goal.is_timed_walk-requires-clause-long
is_timed_walk-requires-clause-long c = omega (arith, c.requires.count, classes-fit c.args.over.now.pricing.now.instance.now c.args.over.now.pricing.now.network.now c.args.over.now.graph.now c.requires.graph)

pub returns-then-not-is_timed_walk : goal.returns-then-not-is_timed_walk
returns-then-not-is_timed_walk c = λ allowed price classes holds.
    no-walk_of_cost c.args.over.now.pricing.now.instance.now (points_in c.args.over.now.pricing.now.network.now) allowed (shipment_at c.args.over.now.pricing.now.instance.now c.args.shipment) price (legs_of c.args.walk.now) c.args.cost c.is_timed_walk.result c.if-not-is_timed_walk.true
    (c.is_timed_walk.ensures.exact allowed price classes holds)

pub returns : goal.returns
returns c =
    walk_of_cost c.args.over.now.pricing.now.instance.now c.args.over.now.pricing.now.network.now (shipment_at c.args.over.now.pricing.now.instance.now c.args.shipment) c.shipment.result.now.from c.args.costs.now (legs_of c.args.walk.now) c.args.cost c.is_timed_walk.result c.repeats_no_node.result
    c.if-not-is_timed_walk.false (ap (λ (s : Shipment). s.from) c.shipment.ensures.same) c.is_timed_walk.ensures.exact c.repeats_no_node.ensures
