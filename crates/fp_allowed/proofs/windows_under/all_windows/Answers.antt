use Rattle.fp_flatnet.specs.Tables.{row_lists, windows_in}
use Rattle.fp_allowed.proofs.LeafWindows.{AreNarrower-under, rows_are}
use Rattle.fp_allowed.proofs.windows_under.all_windows.Goals as goal

pub narrower-requires : goal.narrower-requires
narrower-requires c = AreNarrower-under c.args.instance.now c.args.windows.now c.args.sides.now (row_lists c.in_ok-rows.rows.items) c.requires.fits c.in_ok-rows.ensures

pub returns-clause-rows : goal.returns-clause-rows
returns-clause-rows c =
    rows_are c.args.instance.now (windows_in c.args.windows.now) c.args.sides.now (row_lists c.in_ok-rows.rows.items) c.narrower.result c.in_ok-rows.ensures c.narrower.ensures.rows
