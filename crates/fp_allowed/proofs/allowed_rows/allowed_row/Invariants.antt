use Rattle.fp_flatnet.specs.Tables.{windows_in}
use Rattle.fp_longestarcs.specs.Networks.{points_in}
use Rattle.fp_allowed.specs.Allowed.{is_allowed}
use Rattle.fp_allowed.proofs.FilledRows.{FilledBelow}
use Rattle.fp_allowed.proofs.allowed_rows.allowed_row.Given as goal

abbrev pub invariant-loop-arc : goal.invariant-loop-arc
invariant-loop-arc l = FilledBelow l.network (is_allowed l.instance (windows_in l.windows) (points_in l.network) l.fn.sides l.shipment) l.arc l.row
