use Rattle.std.proofs.Common.{◌≡◌}
use Rattle.std.specs.Prelude.{count_by, not}
use Rattle.fp_model.specs.Numbered.{shipment_at}
use Rattle.fp_allowed.specs.Bits.{row_allows}
use Rattle.fp_allowed.proofs.ForcedSteps.{ChainSoFar}
use Rattle.fp_allowed.proofs.forced_chains.forced_chain.Given as goal

abbrev pub invariant-loop-here : goal.invariant-loop-here
invariant-loop-here l =
    ChainSoFar l.instance l.network (row_allows l.network l.row) (shipment_at l.instance l.shipment) l.classes.items l.met.items l.here
    × (l.there ≡ (shipment_at l.instance l.shipment).to)

abbrev pub decreases-loop-here : goal.decreases-loop-here
decreases-loop-here l = count_by not l.met.items
