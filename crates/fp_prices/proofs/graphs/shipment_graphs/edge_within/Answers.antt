-- The class with a number is the one that is found, and its edge leads to its head for the shipment.
use Rattle.std.proofs.Common.{◌≡◌, ℕ, ◌<◌, length, sym, ap, ◌∙◌, subst}
use Rattle.fp_labels.specs.declared.graphs.Edge.{Edge}
use Rattle.fp_model.specs.declared.parts.Arc.{Arc}
use Rattle.fp_model.specs.declared.parts.Leg.{Leg}
use Rattle.fp_model.specs.Problem.{Problem, arc_at}
use Rattle.fp_flatnet.specs.Tables.{windows_in}
use Rattle.fp_longestarcs.specs.Networks.{IsClass, TimedNetwork, points_in}
use Rattle.fp_allowed.specs.Heads.{heads_within}
use Rattle.fp_allowed.specs.Listing.{class_at}
use Rattle.fp_allowed.proofs.ListedClasses.{class_at-number}
use Rattle.fp_prices.specs.Points.{class_edge_by, point_node}
use Rattle.fp_prices.proofs.graphs.shipment_graphs.edge_within.Goals as goal

pub head-head-requires-clause-shipment : goal.head-head-requires-clause-shipment
head-head-requires-clause-shipment c = subst (λ (q : Problem). c.args.shipment < length q.shipments) c.requires.instance c.requires.shipment

pub head-head-requires-clause-class : goal.head-head-requires-clause-class
head-head-requires-clause-class c =
    subst (λ (n : TimedNetwork). IsClass n (record { arc = c.of_class-arc.result.0; depart = c.of_class-arc.result.1 })) c.requires.network c.of_class-arc.ensures.is

pub returns : goal.returns
returns c =
    let p : Problem = c.args.instance.now in
    let net : TimedNetwork = c.args.network.now in
    let leg : Leg = record { arc = c.of_class-arc.result.0; depart = c.of_class-arc.result.1 } in
    let arc : Arc = arc_at p leg.arc in
    let heads : Problem → TimedNetwork → Leg → ℕ = λ q n. heads_within q (windows_in c.args.allowed.now.windows) (points_in n) c.args.shipment in
    let is : class_at net c.args.class ≡ leg = ap (class_at net) (sym c.of_class-arc.ensures.number) ∙ class_at-number net leg c.requires.whole.valid c.of_class-arc.ensures.is in
    let head : c.head-head.result ≡ heads p net leg =
    c.head-head.ensures ∙ ap (λ (q : Problem). heads q c.args.allowed.now.network leg) (sym c.requires.instance) ∙ ap (λ (n : TimedNetwork). heads p n leg) (sym c.requires.network) in
    let edge : ℕ → Edge = λ n. record { from = point_node net arc.from leg.depart; to = point_node net arc.to n } in
    c.edge_to.ensures ∙ ap edge head ∙ ap (class_edge_by p net (heads p net)) (sym is)
