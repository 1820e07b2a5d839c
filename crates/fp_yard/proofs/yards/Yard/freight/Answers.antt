use Rattle.fp_yard.specs.Models.{YardModel}
use Rattle.fp_yard.specs.Schedules.{IsFreightOf}
use Rattle.std.proofs.Common.{subst}
use Rattle.fp_yard.proofs.FreightOf.{IsFreight-members}
use Rattle.fp_yard.proofs.yards.Yard.freight.Goals as goal

pub returns-clause-shipments : goal.returns-clause-shipments
returns-clause-shipments c = λ k.
    IsFreight-members c.args.self.now.schedule c.args.line k c.freight.result.now
    (subst (λ (y : YardModel). IsFreightOf y.schedule c.args.line c.freight.result.now) c.self.view_is c.freight.ensures.freight)
