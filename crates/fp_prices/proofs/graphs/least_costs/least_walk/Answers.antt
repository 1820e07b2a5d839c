use Rattle.std.proofs.Common.{◌≡◌, List, true, sym, ◌∙◌, subst}
use Rattle.std.proofs.lemmas.Bool.{false≢true}
use Rattle.fp_model.specs.declared.parts.Leg.{Leg}
use Rattle.fp_model.specs.declared.parts.Shipment.{Shipment}
use Rattle.fp_model.specs.Numbered.{shipment_at}
use Rattle.fp_longestarcs.specs.declared.stops.Stop.{Stop}
use Rattle.fp_longestarcs.specs.Networks.{points_in}
use Rattle.fp_longestarcs.specs.Stops.{legs_of}
use Rattle.fp_prices.specs.ClassCosts.{IsLeastOver}
use Rattle.fp_prices.specs.LeastWalks.{IsLeastWalk}
use Rattle.fp_prices.specs.Leaves.{IsLeastCost}
use Rattle.fp_prices.proofs.GraphWalks.{AreCosts}
use Rattle.fp_prices.proofs.OriginLabels.{cost-least, walk-least, walk-none}
use Rattle.fp_prices.proofs.PreferredWalks.{cost_of-least, least-of_cost}
use Rattle.fp_prices.proofs.graphs.least_costs.least_walk.Goals as goal

pub returns-in-None-clause-least : goal.returns-in-None-clause-least
returns-in-None-clause-least c = λ allowed price classes holds.
    let p = c.args.over.now.pricing.now.instance.now in
    let net = c.args.over.now.pricing.now.network.now in
    let g = c.requires.graph in
    let s : Shipment = shipment_at p c.args.shipment in
    let are : AreCosts p net allowed price s.size c.args.costs.now =
    record { valid = c.end_node-end.ensures.valid; whole = g.whole; count = c.requires.count ∙ g.count; free = c.requires.free; classes = classes; holds = holds } in
    walk-none p net c.args.shipment c.args.costs.now c.in_ok-labels.labels c.end_node-end.ensures.valid g.whole c.requires.shipment c.in_ok-labels.ensures c.end_node-end.result c.end_node-end.ensures.node
    allowed price are c.to.result c.to.ensures.label c.in-None.is

pub returns-in-None-clause-preferred : goal.returns-in-None-clause-preferred
returns-in-None-clause-preferred c = λ allowed price classes holds own.
    let p = c.args.over.now.pricing.now.instance.now in
    let net = c.args.over.now.pricing.now.network.now in
    let g = c.requires.graph in
    let s : Shipment = shipment_at p c.args.shipment in
    let are : AreCosts p net allowed price s.size c.args.costs.now =
    record { valid = c.end_node-end.ensures.valid; whole = g.whole; count = c.requires.count ∙ g.count; free = c.requires.free; classes = classes; holds = holds } in
    absurd (walk-none p net c.args.shipment c.args.costs.now c.in_ok-labels.labels c.end_node-end.ensures.valid g.whole c.requires.shipment c.in_ok-labels.ensures c.end_node-end.result c.end_node-end.ensures.node
    allowed price are c.to.result c.to.ensures.label c.in-None.is (legs_of c.args.preferred.now) own.timed)

pub returns-then-branch-clause-least : goal.returns-then-branch-clause-least
returns-then-branch-clause-least c = λ allowed price classes holds.
    let p = c.args.over.now.pricing.now.instance.now in
    let net = c.args.over.now.pricing.now.network.now in
    let g = c.requires.graph in
    let s : Shipment = shipment_at p c.args.shipment in
    let are : AreCosts p net allowed price s.size c.args.costs.now =
    record { valid = c.end_node-end.ensures.valid; whole = g.whole; count = c.requires.count ∙ g.count; free = c.requires.free; classes = classes; holds = holds } in
    let least : IsLeastCost p (points_in net) allowed s price c.in-Some.least =
    subst (IsLeastOver p (points_in net) allowed s price) c.in-Some.is
    (cost-least p net c.args.shipment c.args.costs.now c.in_ok-labels.labels c.end_node-end.ensures.valid g.whole c.requires.shipment c.in_ok-labels.ensures c.end_node-end.result c.end_node-end.ensures.node
    allowed price are c.to.result c.to.ensures.label) in
    subst (λ (walk : List Stop). IsLeastWalk p (points_in net) allowed s price (legs_of walk)) (sym c.in_ok-from_slice.ensures.items)
    (least-of_cost p (points_in net) allowed s price (legs_of c.args.preferred.now) c.in-Some.least least ((c.in_ok-is_walk_of_cost.ensures allowed price classes holds).0 c.if-branch.true))

pub returns-clause-least : goal.returns-clause-least
returns-clause-least c = λ allowed price classes holds.
    let p = c.args.over.now.pricing.now.instance.now in
    let net = c.args.over.now.pricing.now.network.now in
    let g = c.requires.graph in
    let s : Shipment = shipment_at p c.args.shipment in
    let are : AreCosts p net allowed price s.size c.args.costs.now =
    record { valid = c.end_node-end.ensures.valid; whole = g.whole; count = c.requires.count ∙ g.count; free = c.requires.free; classes = classes; holds = holds } in
    subst (λ (walk : List Leg). IsLeastWalk p (points_in net) allowed s price walk) (sym c.in_ok-class_walk.ensures)
    (walk-least p net c.args.shipment c.args.costs.now c.in_ok-labels.labels c.end_node-end.ensures.valid g.whole c.requires.shipment c.in_ok-labels.ensures c.end_node-end.result c.end_node-end.ensures.node
    allowed price are c.to.result _ c.deref.result.now c.to.ensures.label c.in-Some.is (c.deref.ensures.value ∙ c.in_ok-edges.ensures))

pub returns-clause-preferred : goal.returns-clause-preferred
returns-clause-preferred c = λ allowed price classes holds own.
    let p = c.args.over.now.pricing.now.instance.now in
    let net = c.args.over.now.pricing.now.network.now in
    let g = c.requires.graph in
    let s : Shipment = shipment_at p c.args.shipment in
    let are : AreCosts p net allowed price s.size c.args.costs.now =
    record { valid = c.end_node-end.ensures.valid; whole = g.whole; count = c.requires.count ∙ g.count; free = c.requires.free; classes = classes; holds = holds } in
    let least : IsLeastCost p (points_in net) allowed s price c.in-Some.least =
    subst (IsLeastOver p (points_in net) allowed s price) c.in-Some.is
    (cost-least p net c.args.shipment c.args.costs.now c.in_ok-labels.labels c.end_node-end.ensures.valid g.whole c.requires.shipment c.in_ok-labels.ensures c.end_node-end.result c.end_node-end.ensures.node
    allowed price are c.to.result c.to.ensures.label) in
    let told : c.in_ok-is_walk_of_cost.field-0 ≡ true =
    (c.in_ok-is_walk_of_cost.ensures allowed price classes holds).1 (cost_of-least p (points_in net) allowed s price (legs_of c.args.preferred.now) c.in-Some.least least own) in
    absurd (false≢true (sym c.if-branch.false ∙ told))
