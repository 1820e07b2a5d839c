use Rattle.std.proofs.Common.{◌≡◌, ◌<◌, length, sym, ap, subst, arith}
use Rattle.fp_model.specs.declared.parts.Shipment.{Shipment}
use Rattle.fp_model.specs.Numbered.{shipment_at}
use Rattle.fp_longestarcs.specs.Networks.{point_count}
use Rattle.fp_prices.specs.Points.{first_node}
use Rattle.fp_prices.specs.Rounds.{RoundModel}
use Rattle.fp_prices.proofs.OriginLabels.{are-ends, first-read}
use Rattle.fp_prices.proofs.values.rounds.RoundNetwork.start.Goals as goal

pub returns-clause-exists : goal.returns-clause-exists
returns-clause-exists c =
    let p = c.self.inside.instance.now in
    let net = c.self.inside.network in
    let exists = subst (λ (r : RoundModel). c.args.shipment < length r.problem.shipments) (sym c.self.view_is) c.requires in
    let ends = are-ends p net c.args.shipment c.self.invariant.valid c.self.invariant.of_points.whole exists in
    let from : c.shipment.result.now.from ≡ (shipment_at p c.args.shipment).from = ap (λ (s : Shipment). s.from) c.shipment.ensures.same in
    let start : c.index.result.now ≡ first_node net c.shipment.result.now.from =
    first-read net c.self.inside.graph.firsts.items c.shipment.result.now.from c.index.result.now c.self.invariant.of_points.firsts (omega (arith, ends.from, from)) c.index.ensures in
    subst (λ (r : RoundModel). c.index.result.now < point_count r.network) c.self.view_is (omega (arith, ends.first, start, ap (first_node net) from))
