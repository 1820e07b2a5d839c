use Rattle.fp_session_branching.specs.Best.{AreBest}
use Rattle.fp_session_branching.proofs.leaf_candidates.best_ranked.Given as goal

-- the best ones among the shipments so far
abbrev pub invariant-loop-shipment : goal.invariant-loop-shipment
invariant-loop-shipment l = AreBest l.pricing.leaf l.shipment l.most l.ranked.items
