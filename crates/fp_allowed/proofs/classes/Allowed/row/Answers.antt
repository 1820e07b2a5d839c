use Rattle.std.proofs.Common.{◌<◌, length, sym, subst}
use Rattle.fp_allowed.specs.Settings.{Setting}
use Rattle.fp_allowed.proofs.RowClasses.{row_AllowsPlans}
use Rattle.fp_allowed.proofs.classes.Allowed.row.Goals as goal

pub returns-clause-plans : goal.returns-clause-plans
returns-clause-plans c =
    let exists = subst (λ (s : Setting). c.args.shipment < length s.problem.shipments) (sym c.self.view_is) c.requires in
    row_AllowsPlans _ c.args.self.now c.args.sides.now c.args.shipment c.allowed_row.result c.self.view_is c.self.invariant exists c.allowed_row.ensures
