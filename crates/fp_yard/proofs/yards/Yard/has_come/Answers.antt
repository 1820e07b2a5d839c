use Rattle.std.proofs.Common.{◌-◌, ap, ◌∙◌, arith}
use Rattle.fp_yard.specs.Models.{YardModel}
use Rattle.fp_yard.specs.Schedules.{journey_at}
use Rattle.fp_yard.proofs.Missing.{come-before}
use Rattle.fp_yard.proofs.yards.Yard.has_come.Goals as goal

pub returns : goal.returns
returns c =
    let y : YardModel = c.args.self.now in
    come-before y.schedule y.history c.args.leg c.has_arrived.result c.journey.result.now (c.args.leg.leg - 1)
    (c.journey.ensures.journey ∙ ap (λ (x : YardModel). journey_at x.schedule c.args.leg.shipment) c.self.view_is)
    (omega arith) c.has_arrived.ensures
