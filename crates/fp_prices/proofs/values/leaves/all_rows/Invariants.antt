use Rattle.std.proofs.Common.{◌≡◌, length}
use Rattle.fp_prices.specs.Forced.{AreRowsUnder}
use Rattle.fp_prices.proofs.values.leaves.all_rows.Given as goal

-- the rows of the shipments so far
abbrev pub invariant-loop-shipment : goal.invariant-loop-shipment
invariant-loop-shipment l = (length l.rows.items ≡ l.shipment) × AreRowsUnder l.allowed l.fn.sides l.rows.items
