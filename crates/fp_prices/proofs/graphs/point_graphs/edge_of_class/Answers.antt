-- The class with a number is the one that is found, and its edge leads to its head.
use Rattle.std.proofs.Common.{◌≡◌, ℕ, sym, ap, ◌∙◌}
use Rattle.fp_labels.specs.declared.graphs.Edge.{Edge}
use Rattle.fp_model.specs.declared.parts.Arc.{Arc}
use Rattle.fp_model.specs.declared.parts.Leg.{Leg}
use Rattle.fp_model.specs.Problem.{Problem, arc_at}
use Rattle.fp_longestarcs.specs.Networks.{TimedNetwork}
use Rattle.fp_allowed.specs.Listing.{class_at}
use Rattle.fp_allowed.proofs.ListedClasses.{class_at-number}
use Rattle.fp_prices.specs.Points.{class_edge, point_node}
use Rattle.fp_prices.proofs.graphs.point_graphs.edge_of_class.Goals as goal

pub returns : goal.returns
returns c =
    let p : Problem = c.args.instance.now in
    let net : TimedNetwork = c.args.network.now in
    let leg : Leg = record { arc = c.of_class-arc.result.0; depart = c.of_class-arc.result.1 } in
    let arc : Arc = arc_at p leg.arc in
    let is : class_at net c.args.class ≡ leg = ap (class_at net) (sym c.of_class-arc.ensures.number) ∙ class_at-number net leg c.requires.whole.valid c.of_class-arc.ensures.is in
    let edge : ℕ → Edge = λ n. record { from = point_node net arc.from leg.depart; to = point_node net arc.to n } in
    c.edge_to.ensures ∙ ap edge (c.head-head.ensures.greatest p c.requires.whole) ∙ ap (class_edge p net) (sym is)
