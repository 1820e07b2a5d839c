use Rattle.fp_duals_walks.proofs.AllowedWalks.{AreAllowedBelow}
use Rattle.fp_duals_walks.proofs.allowed_walks.are_allowed_walks.Given as goal

-- the walks of the shipments so far are allowed
abbrev pub invariant-loop-shipment : goal.invariant-loop-shipment
invariant-loop-shipment l = AreAllowedBelow l.leaf l.shipment l.walks
