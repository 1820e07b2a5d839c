use Rattle.fp_flatnet.specs.Tables.{row_lists, windows_in}
use Rattle.fp_allowed.proofs.LeafWindows.{AreRowsBefore}
use Rattle.fp_allowed.proofs.windows_under.all_rows.Given as goal

-- the rows of the shipments before
abbrev pub invariant-loop-shipment : goal.invariant-loop-shipment
invariant-loop-shipment l = AreRowsBefore l.instance (windows_in l.windows) l.sides l.shipment (row_lists l.rows.items)
