use Rattle.std.proofs.Common.{◌≡◌, ◌++◌, take}
use Rattle.fp_replan_quotes.proofs.last_shipments.add_copies.Given as goal

abbrev pub invariant-loop-shipment : goal.invariant-loop-shipment
invariant-loop-shipment l = l.copies.items ≡ l.fn.copies.items ++ take l.shipment-index l.shipments
