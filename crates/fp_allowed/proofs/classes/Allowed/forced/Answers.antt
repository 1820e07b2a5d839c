use Rattle.fp_allowed.proofs.RowsUnderSides.{forced_under}
use Rattle.fp_allowed.proofs.classes.Allowed.forced.Goals as goal

pub returns : goal.returns
returns c = λ sides under. forced_under _ c.args.self.now sides c.args.shipment c.args.row.now c.forced_chain.result c.self.view_is c.self.invariant c.forced_chain.ensures under
