use Rattle.fp_allowed.proofs.WindowsUnder.{plans_under}
use Rattle.fp_allowed.proofs.classes.Allowed.windows_under.Goals as goal

pub returns-clause-plans : goal.returns-clause-plans
returns-clause-plans c = plans_under _ c.args.self.now c.args.sides.now c.args.shipment c.window_row.result c.self.view_is c.requires c.window_row.ensures
