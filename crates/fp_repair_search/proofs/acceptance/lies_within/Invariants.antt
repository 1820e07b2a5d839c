use Rattle.std.proofs.Common.{ℕ, ◌<◌}
use Rattle.fp_model.specs.Numbered.{route_at}
use Rattle.fp_flatnet.specs.Tables.{windows_in}
use Rattle.fp_flatnet.specs.Windows.{LiesWithin}
use Rattle.fp_repair_search.proofs.acceptance.lies_within.Given as goal

-- the routes so far lie within the windows
abbrev pub invariant-loop-shipment : goal.invariant-loop-shipment
invariant-loop-shipment l = (k : ℕ) → k < l.shipment → LiesWithin (windows_in l.windows) 1 k (route_at l.plan k)
