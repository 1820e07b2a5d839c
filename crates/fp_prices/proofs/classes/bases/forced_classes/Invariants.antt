use Rattle.fp_prices.proofs.ForcedSoFar.{ForcedSoFar}
use Rattle.fp_prices.proofs.classes.bases.forced_classes.Given as goal

-- the chains of the shipments so far were added
abbrev pub invariant-loop-shipment : goal.invariant-loop-shipment
invariant-loop-shipment l = ForcedSoFar l.allowed l.rows l.shipment l.found
