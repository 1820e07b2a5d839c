use Rattle.std.proofs.Common.{◌<◌, length, sym, ap, ◌∙◌, subst, arith}
use Rattle.fp_model.specs.declared.parts.Shipment.{Shipment}
use Rattle.fp_longestarcs.specs.Networks.{point_count}
use Rattle.fp_prices.specs.Points.{last_node}
use Rattle.fp_prices.specs.Rounds.{RoundModel}
use Rattle.fp_prices.proofs.OriginLabels.{are-ends}
use Rattle.fp_prices.proofs.values.rounds.RoundNetwork.end.Goals as goal

pub returns-clause-exists : goal.returns-clause-exists
returns-clause-exists c =
    let p = c.self.inside.instance.now in
    let net = c.self.inside.network in
    let exists = subst (λ (r : RoundModel). c.args.shipment < length r.problem.shipments) (sym c.self.view_is) c.requires in
    let ends = are-ends p net c.args.shipment c.self.invariant.valid c.self.invariant.of_points.whole exists in
    let node = c.last_node_of.ensures ∙ ap (λ (s : Shipment). last_node net s.to) c.shipment.ensures.same in
    subst (λ (r : RoundModel). c.last_node_of.result < point_count r.network) c.self.view_is (omega (arith, ends.last, node))
