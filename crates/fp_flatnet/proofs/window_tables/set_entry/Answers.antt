use Rattle.fp_flatnet.proofs.WindowEntries.{row_lists-set}
use Rattle.fp_flatnet.proofs.window_tables.set_entry.Goals as goal

pub returns-clause-set : goal.returns-clause-set
returns-clause-set c =
    row_lists-set c.args.rows.now c.args.shipment c.args.arc c.args.to c.index-rows-shipment.result c.requires.shipment
