use Rattle.std.proofs.Common.{◌&&◌, All, nat_lt}
use Rattle.fp_prices_bars.specs.BarRuns.{BarAlso, IsRun}
use Rattle.fp_prices_bars.specs.BarTests.{is_barred_by}
use Rattle.fp_prices_bars.proofs.bar_runs.add_classes.Given as goal

-- the classes so far are barred
abbrev pub invariant-loop-class : goal.invariant-loop-class
invariant-loop-class l = record {
  runs : All (IsRun l.instance) l.bars.items;
  also : BarAlso l.instance l.network l.shipment (λ n. nat_lt n l.class && is_barred_by l.test l.row l.through n) l.fn.bars.items l.bars.items;
}
