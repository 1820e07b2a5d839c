use Rattle.std.proofs.Common.{ℕ, ◌<◌}
use Rattle.fp_model.specs.Numbered.{leg_at}
use Rattle.fp_flatnet.specs.Tables.{windows_in}
use Rattle.fp_repair_search.proofs.LegsWithin.{LegLiesWithin}
use Rattle.fp_repair_search.proofs.acceptance.route_lies_within.Given as goal

-- the legs so far leave inside their windows
abbrev pub invariant-loop-leg : goal.invariant-loop-leg
invariant-loop-leg l = (i : ℕ) → i < l.leg-index → LegLiesWithin (windows_in l.windows) l.shipment (leg_at l.route i)
